-- What the check's tests of lines say: that a line of the kind meant joins two stations, and which earlier neighbour is the earliest.
-- Assumes nothing.
use Prim.Native.Nat.{ℕ, ◌/◌, ◌<◌}
use mathlib.Core.Path.{◌≡◌, refl, sym, ◌∙◌}
use mathlib.Core.Bool.{Bool, true, false, ◌&&◌, true≢false, or-true}
use mathlib.Core.List.{List}
use mathlib.Core.Logic.{◌⊎◌, ◌⊎◌.inl, ◌⊎◌.inr}
use native.Mathlib.Decide.{dec_lt}
use native.Mathlib.Omega.{arith}
use borrow.Author.Tests.{leb-true, le-leb, eqb-true, eq-eqb}
use lib.Dec.{leb, eqb}
use lib.ListN.{length, get_or}
use Rattle.laws.proofs.Fold.{FoundAt, FoundNone, first_cases, any_some, some_any}
use Rattle.network.specs.Lines.{end_one, end_two, network}
use Rattle.network.specs.Chains.{Hop, Hop.by}
use Rattle.network.specs.Judging.{same_ends}
use Rattle.network.proofs.Sound.{joins_same, same_joins}
use Rattle.plans.specs.Checking.{in_play, of_rank, linked, earliest}
use Rattle.plans.specs.Plans.{InPlay, OfRank}
use Rattle.plans.specs.Faults.{Beside, Tied, Earliest}
use Rattle.laws.proofs.Truth.{both_true, either_true}

-- A line's test of rank, and what it says.
module _ (ranks : List ℕ) (i p : ℕ) where
  pub in_play_lem : in_play ranks i p ≡ true → InPlay ranks i p
  unfolding in_play
  in_play_lem e = go (either_true (eqb (get_or ranks p 0) 0) (leb i (get_or ranks p 0)) e)
    where
      go : (eqb (get_or ranks p 0) 0 ≡ true) ⊎ (leb i (get_or ranks p 0) ≡ true) → InPlay ranks i p
      go (inl h) = inl (eqb-true (get_or ranks p 0) 0 h)
      go (inr h) = inr (leb-true i (get_or ranks p 0) h)

  pub play_in : InPlay ranks i p → in_play ranks i p ≡ true
  unfolding in_play
  play_in (inl h) = rw (eq-eqb (get_or ranks p 0) 0 h)
  play_in (inr h) = rw (le-leb i (get_or ranks p 0) h, or-true (eqb (get_or ranks p 0) 0))

  pub of_rank_lem : of_rank ranks i p ≡ true → OfRank ranks i p
  unfolding of_rank
  of_rank_lem e = eqb-true (get_or ranks p 0) i e

  pub rank_of : OfRank ranks i p → of_rank ranks i p ≡ true
  unfolding of_rank
  rank_of h = eq-eqb (get_or ranks p 0) i h

module _ (n : ℕ) (lines : List ℕ) where
  -- a test over all lines, and what it says, if the test of each line says what is meant
  pub linked_hop : (test : ℕ → Bool) (uses : ℕ → Type 0) → ((p : ℕ) → test p ≡ true → uses p)
      → (u v : ℕ) → linked lines (length lines / 2) test u v ≡ true → Hop (network n lines) uses u v
  unfolding linked
  linked_hop test uses says u v e =
      let (p, l, h) = any_some (λ p. test p && same_ends u v (end_one lines p) (end_two lines p)) (length lines / 2) e in
      let (x, y) = both_true (test p) (same_ends u v (end_one lines p) (end_two lines p)) h in
      by p l (says p x) (joins_same n lines p u v y)

  pub hop_linked : (test : ℕ → Bool) (uses : ℕ → Type 0) → ((p : ℕ) → uses p → test p ≡ true)
      → (u v : ℕ) → Hop (network n lines) uses u v → linked lines (length lines / 2) test u v ≡ true
  unfolding linked
  hop_linked test uses says u v (by p l h j) =
      some_any (λ p. test p && same_ends u v (end_one lines p) (end_two lines p)) (length lines / 2) p l (rw (says p h, same_joins n lines p u v j))

module _ (n : ℕ) (lines ranks : List ℕ) (i : ℕ) (order : List ℕ) where
  -- the check's tests of the stations at two positions, and the position that it takes for the earliest
  abbrev pub is_beside : ℕ → ℕ → Bool
  is_beside j h = linked lines (length lines / 2) (in_play ranks i) (get_or order j 0) (get_or order h 0)

  abbrev pub is_tied : ℕ → ℕ → Bool
  is_tied j h = linked lines (length lines / 2) (of_rank ranks i) (get_or order j 0) (get_or order h 0)

  abbrev pub first_beside : ℕ → ℕ
  first_beside j = earliest lines ranks i order (length lines / 2) j

  pub linked_beside : (j h : ℕ) → is_beside j h ≡ true → Beside n lines ranks i order j h
  linked_beside j h e = linked_hop n lines (in_play ranks i) (InPlay ranks i) (in_play_lem ranks i) (get_or order j 0) (get_or order h 0) e

  pub beside_linked : (j h : ℕ) → Beside n lines ranks i order j h → is_beside j h ≡ true
  beside_linked j h b = hop_linked n lines (in_play ranks i) (InPlay ranks i) (play_in ranks i) (get_or order j 0) (get_or order h 0) b

  pub linked_tied : (j h : ℕ) → is_tied j h ≡ true → Tied n lines ranks i order j h
  linked_tied j h e = linked_hop n lines (of_rank ranks i) (OfRank ranks i) (of_rank_lem ranks i) (get_or order j 0) (get_or order h 0) e

  pub tied_linked : (j h : ℕ) → Tied n lines ranks i order j h → is_tied j h ≡ true
  tied_linked j h b = hop_linked n lines (of_rank ranks i) (OfRank ranks i) (rank_of ranks i) (get_or order j 0) (get_or order h 0) b

  -- whether a line of rank i joins the stations at two positions
  pub tied_or_not : (j h : ℕ) → Dec (Tied n lines ranks i order j h)
  tied_or_not j h = go (is_tied j h) refl
    where
      go : (b : Bool) → is_tied j h ≡ b → Dec (Tied n lines ranks i order j h)
      go true e = yes (linked_tied j h e)
      go false e = no (λ b. true≢false (sym (tied_linked j h b) ∙ e))

  -- what the search for the earliest of the earlier neighbours in play found: that one; or that there is none
  abbrev pub Searched : ℕ → Type 0
  Searched j =
      ((first_beside j < j) × Earliest n lines ranks i order j (first_beside j))
      ⊎ ((first_beside j ≡ j) × ((h : ℕ) → h < j → ¬ Beside n lines ranks i order j h))

  pub searched : (j : ℕ) → Searched j
  unfolding earliest
  searched j = go (first_cases (is_beside j) (λ h. h) j 0 j)
    where
      unlinked : (h : ℕ) → is_beside j h ≡ false → ¬ Beside n lines ranks i order j h
      unlinked h e b = true≢false (sym (beside_linked j h b) ∙ e)

      go : FoundAt (is_beside j) (λ h. h) 0 j (first_beside j) ⊎ FoundNone (is_beside j) (λ h. h) j 0 j (first_beside j) → Searched j
      go (inl r) =
          rw r.is (inl (
            omega (arith, r.below),
            record {
              earlier = omega (arith, r.below);
              beside = linked_beside j r.place r.passes;
              first = λ x l. unlinked x (r.earlier x (omega arith) l);
            },
          ))
      go (inr r) = inr (r.is, λ h l. unlinked h (r.none h (omega arith) (omega arith)))

  -- there is at most one earliest
  pub earliest_one : {j h x : ℕ} → Earliest n lines ranks i order j h → Earliest n lines ranks i order j x → h ≡ x
  earliest_one {j} {h} {x} a b = go (dec_lt h x) (dec_lt x h)
    where
      go : Dec (h < x) → Dec (x < h) → h ≡ x
      go (yes l) d = absurd (b.first h l a.beside)
      go (no m) (yes l) = absurd (a.first x l b.beside)
      go (no m) (no o) = omega arith
