-- THEOREMS. The search's own answer: that the network stands, or a weak spot, is said exactly where it is so of a network that may be searched.
-- Assumes nothing.
use Prim.Native.Nat.{ℕ}
use mathlib.Core.Path.{◌≡◌}
use mathlib.Core.List.{List}
use mathlib.Core.Logic.{◌↔◌}
use Rattle.kinds.specs.Answers.{Answer.given}
use Rattle.kinds.proofs.Answers.{then_given}
use Rattle.parting.specs.Standing.{Standing, Standing.stands, Standing.weak}
use Rattle.tries.specs.Tries.{weak_spot}
use Rattle.weakness.specs.Search.{weak_judged, weak_answer}
use Rattle.weakness.specs.Spots.{Searchable, StandsAt, IsWeakSpot}
use Rattle.weakness.proofs.Judging.{weak_good, good_weak}
use Rattle.weakness.proofs.Whole.{stands_whole, weak_spot_lem}

module _ (n k : ℕ) (lines : List ℕ) where
  -- an answer is given just of what may be searched
  search_given : {standing : Standing} → (weak_answer n k lines ≡ given standing) ↔ (Searchable n k lines × (weak_spot n k lines ≡ standing))
  unfolding weak_answer
  search_given {standing} = (forth, back)
    where
      forth : weak_answer n k lines ≡ given standing → Searchable n k lines × (weak_spot n k lines ≡ standing)
      forth e = let (j, f) = then_given (weak_judged n k lines) (given (weak_spot n k lines)) e in (weak_good n k lines j, cc)

      back : Searchable n k lines × (weak_spot n k lines ≡ standing) → weak_answer n k lines ≡ given standing
      back (g, e) = rw (good_weak n k lines g, e)

  pub search_stands : (weak_answer n k lines ≡ given stands) ↔ (Searchable n k lines × StandsAt n k lines)
  search_stands = (
    λ e. let (g, f) = search_given.0 e in (g, (stands_whole n k lines g.sound g.some g.most).0 f),
    λ (s : Searchable n k lines × StandsAt n k lines). search_given.1 (s.0, (stands_whole n k lines s.0.sound s.0.some s.0.most).1 s.1),
  )

  pub search_weak : {spot : List ℕ} {a b : ℕ} → (weak_answer n k lines ≡ given (weak spot a b)) ↔ (Searchable n k lines × IsWeakSpot n k lines spot a b)
  search_weak {spot} {a} {b} = (
    λ e. let (g, f) = search_given.0 e in (g, (weak_spot_lem n k lines g.sound g.some g.most).0 f),
    λ (s : Searchable n k lines × IsWeakSpot n k lines spot a b). search_given.1 (s.0, (weak_spot_lem n k lines s.0.sound s.0.some s.0.most).1 s.1),
  )
