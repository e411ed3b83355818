-- The lowest remaining station, and how few stations a set of the search takes away.
-- Assumes nothing.
use Prim.Native.Nat.{ℕ, ◌<◌, ◌≤◌}
use mathlib.Core.Path.{◌≡◌, refl, sym, ◌∙◌}
use mathlib.Core.Bool.{Bool, not, ◌||◌, true≢false}
use mathlib.Core.List.{[], ◌∷◌}
use mathlib.Core.Logic.{◌⊎◌, ◌⊎◌.inl, ◌⊎◌.inr}
use native.Mathlib.Decide.{dec_lt}
use native.Mathlib.Omega.{arith}
use borrow.Author.Tests.{not-true}
use lib.Dec.{eqb}
use Rattle.laws.specs.Fold.{first_from, lowest}
use Rattle.laws.specs.Count.{count, bit}
use Rattle.laws.proofs.Count.{total_same, count_none, count_equal, count_or}
use Rattle.laws.proofs.Fold.{FoundAt, FoundNone, first_cases}
use Rattle.pieces.specs.Joined.{Remains}
use Rattle.pieces.specs.Away.{is_away}
use Rattle.parting.specs.Standing.{lowest_remaining}
use Rattle.parting.proofs.Looking.{is_one, is_two}

-- ── the lowest remaining station ──

-- Where a station remains, the lowest one does, and it is no higher.
pub record LowestRemains (n : ℕ) (away : ℕ → Bool) (a : ℕ) : Type 0 where
  pub remains : Remains n away a
  pub lowest : (v : ℕ) → Remains n away v → a ≤ v

pub lowest_remains : (n : ℕ) (away : ℕ → Bool) (v : ℕ) → Remains n away v → LowestRemains n away (lowest_remaining n away)
unfolding lowest_remaining
lowest_remains n away v s = go (first_cases (λ u. not (away u)) (λ u. u) n 0 n)
  where
    go : FoundAt (λ u. not (away u)) (λ u. u) 0 n (lowest (λ u. not (away u)) n n) ⊎ FoundNone (λ u. not (away u)) (λ u. u) n 0 n (lowest (λ u. not (away u)) n n)
        → LowestRemains n away (lowest (λ u. not (away u)) n n)
    go (inl r) =
        rw r.is
        (record {
          remains = record { station = omega (arith, r.below); stays = not-true (away r.place) r.passes };
          lowest = λ u t. least u t (dec_lt u r.place);
        })
      where
        least : (u : ℕ) → Remains n away u → Dec (u < r.place) → r.place ≤ u
        least u t (yes l) = absurd (true≢false (sym (rw t.stays) ∙ r.earlier u (omega arith) l))
        least u t (no m) = omega arith
    go (inr r) = absurd (true≢false (sym (rw s.stays) ∙ r.none v (omega arith) (omega (arith, s.station))))

-- ── how few are taken away ──

pub none_few : (n : ℕ) → count n (is_away []) ≡ 0
unfolding is_away first_from
none_few n = count_none n (is_away []) (λ u l. refl)

pub one_few : (n v : ℕ) → count n (is_away (v ∷ [])) ≤ 1
one_few n v =
    let same = total_same n (λ u. bit (is_away (v ∷ []) u)) (λ u. bit (eqb v u)) (λ u l. rw (is_one v u)) in
    omega (arith, same, count_equal n v)

pub two_few : (n v w : ℕ) → count n (is_away (v ∷ (w ∷ []))) ≤ 2
two_few n v w =
    let same = total_same n (λ u. bit (is_away (v ∷ (w ∷ [])) u)) (λ u. bit (eqb v u || eqb w u)) (λ u l. rw (is_two v w u)) in
    omega (arith, same, count_or n (λ u. eqb v u) (λ u. eqb w u), count_equal n v, count_equal n w)
