-- What the test of ends says: the same two stations, either way round.
-- Assumes nothing.
use Prim.Native.Nat.{ℕ}
use mathlib.Core.Path.{◌≡◌}
use mathlib.Core.Bool.{true, ◌&&◌, or-true}
use mathlib.Core.Logic.{◌⊎◌, ◌⊎◌.inl, ◌⊎◌.inr}
use borrow.Author.Tests.{eqb-true, eq-eqb}
use lib.Dec.{eqb}
use Rattle.network.specs.Judging.{same_ends}
use Rattle.laws.proofs.Truth.{both_true, either_true}

module _ (a b c d : ℕ) where
  pub same_ends_lem : same_ends a b c d ≡ true → ((a ≡ c) × (b ≡ d)) ⊎ ((a ≡ d) × (b ≡ c))
  unfolding same_ends
  same_ends_lem e = go (either_true (eqb a c && eqb b d) (eqb a d && eqb b c) e)
    where
      go : ((eqb a c && eqb b d) ≡ true) ⊎ ((eqb a d && eqb b c) ≡ true) → ((a ≡ c) × (b ≡ d)) ⊎ ((a ≡ d) × (b ≡ c))
      go (inl h) = let (x, y) = both_true (eqb a c) (eqb b d) h in inl (eqb-true a c x, eqb-true b d y)
      go (inr h) = let (x, y) = both_true (eqb a d) (eqb b c) h in inr (eqb-true a d x, eqb-true b c y)

  pub ends_same : ((a ≡ c) × (b ≡ d)) ⊎ ((a ≡ d) × (b ≡ c)) → same_ends a b c d ≡ true
  unfolding same_ends
  ends_same (inl (x, y)) = rw (eq-eqb a c x, eq-eqb b d y)
  ends_same (inr (x, y)) = rw (eq-eqb a d x, eq-eqb b c y) (or-true (eqb a c && eqb b d))
