-- What the table of positions tells: whether an entry stood before, and the table with one entry more.
-- Assumes nothing.
use Prim.Native.Nat.{ℕ, ◌+◌, ◌<◌, ◌≤◌}
use mathlib.Core.Path.{◌≡◌, refl, sym, ◌∙◌}
use mathlib.Core.Bool.{true, false}
use mathlib.Core.List.{List}
use mathlib.Core.Logic.{◌⊎◌, ◌⊎◌.inl, ◌⊎◌.inr}
use native.Mathlib.Decide.{ℕ_discrete}
use native.Mathlib.Omega.{arith}
use borrow.Author.Tests.{eq-eqb, ne_eqb, le-leb, lt-leb}
use lib.Dec.{eqb}
use lib.ListN.{length, get_or, set, length-set}
use lib.Seq.{get_or-set_same, get_or-set_other}
use Rattle.laws.specs.Fold.{any_from, lowest}
use Rattle.laws.proofs.Fold.{FoundAt, FoundNone, first_cases, first_last, some_any, lowest_more, lowest_new}
use Rattle.plans.specs.Verdicts.{Kind.B, Verdict.accepted, Verdict.faulty}
use Rattle.plans.specs.Checking.{entry_verdict}
use Rattle.entries.specs.Placed.{Placed}

module _ (n : ℕ) (order : List ℕ) (j : ℕ) (positions : List ℕ) (P : Placed n order j positions) (h : j ≤ n) where
  -- Station v stood before exactly if the table has a position for it.
  stood : (v : ℕ) → v < n → get_or positions v 0 < n → any_from (λ i. eqb (get_or order i 0) v) 0 j ≡ true
  stood v l below = go (first_cases (λ i. eqb (get_or order i 0) v) (λ i. i) n 0 j)
    where
      go : FoundAt (λ i. eqb (get_or order i 0) v) (λ i. i) 0 j (lowest (λ i. eqb (get_or order i 0) v) j n)
          ⊎ FoundNone (λ i. eqb (get_or order i 0) v) (λ i. i) n 0 j (lowest (λ i. eqb (get_or order i 0) v) j n)
          → any_from (λ i. eqb (get_or order i 0) v) 0 j ≡ true
      go (inl f) = some_any (λ i. eqb (get_or order i 0) v) j f.place (omega (arith, f.below)) f.passes
      go (inr f) = absurd (omega (arith, P.at v l, f.is))

  not_stood : (v : ℕ) → v < n → n ≤ get_or positions v 0 → (i : ℕ) → i < j → eqb (get_or order i 0) v ≡ false
  not_stood v l above = go (first_cases (λ i. eqb (get_or order i 0) v) (λ i. i) n 0 j)
    where
      go : FoundAt (λ i. eqb (get_or order i 0) v) (λ i. i) 0 j (lowest (λ i. eqb (get_or order i 0) v) j n)
          ⊎ FoundNone (λ i. eqb (get_or order i 0) v) (λ i. i) n 0 j (lowest (λ i. eqb (get_or order i 0) v) j n)
          → (i : ℕ) → i < j → eqb (get_or order i 0) v ≡ false
      go (inl f) i b = absurd (omega (arith, P.at v l, f.is, f.below))
      go (inr f) i b = f.none i (omega arith) (omega arith)

  -- What B says of the entry at j: outside, a repeat, or new.
  pub entry_outside : (i : ℕ) → n ≤ get_or order j 0 → entry_verdict n i order j ≡ faulty i B j
  unfolding entry_verdict
  entry_outside i m = rw (le-leb _ _ m)

  pub entry_repeated : (i : ℕ) → get_or order j 0 < n → get_or positions (get_or order j 0) 0 < n → entry_verdict n i order j ≡ faulty i B j
  unfolding entry_verdict
  entry_repeated i l below = rw (lt-leb _ _ l, stood _ l below)

  pub entry_new : (i : ℕ) → get_or order j 0 < n → n ≤ get_or positions (get_or order j 0) 0 → entry_verdict n i order j ≡ accepted
  unfolding entry_verdict
  entry_new i l above = rw (lt-leb _ _ l, first_last (λ b. b) (λ h. eqb (get_or order h 0) (get_or order j 0)) false j (not_stood _ l above))

  -- The entry at j has its position, the others as before.
  placed_next : (v : ℕ) → v < n → get_or order j 0 ≡ v → n ≤ get_or positions v 0 → Placed n order (j + 1) (set positions v j)
  placed_next v l e above =
      record { size = length-set positions v j ∙ P.size; at = λ w b. go w b (ℕ_discrete w v) }
    where
      go : (w : ℕ) → w < n → Dec (w ≡ v) → get_or (set positions v j) w 0 ≡ lowest (λ i. eqb (get_or order i 0) w) (j + 1) n
      go w b (yes same) =
          rw same
          (get_or-set_same positions v j 0 (omega (arith, P.size)) ∙ sym (lowest_new (λ i. eqb (get_or order i 0) v) j n (not_stood v l above) (eq-eqb _ _ e)))
      go w b (no other) = get_or-set_other positions v w j 0 other ∙ (P.at w b ∙ sym (lowest_more (λ i. eqb (get_or order i 0) w) j n (ne_eqb _ _ (λ x. other (sym x ∙ e)))))

  pub entry_placed : get_or order j 0 < n → n ≤ get_or positions (get_or order j 0) 0 → Placed n order (j + 1) (set positions (get_or order j 0) j)
  entry_placed l above = placed_next _ l refl above

-- Before any entry no station is placed.
pub placed_none : (n : ℕ) (order positions : List ℕ) → length positions ≡ n → ((v : ℕ) → v < n → get_or positions v 0 ≡ n) → Placed n order 0 positions
placed_none n order positions size none =
    record { size = size; at = λ v l. none v l ∙ sym (first_last (λ j. eqb (get_or order j 0) v) (λ j. j) n 0 (λ j h. absurd (omega arith))) }
