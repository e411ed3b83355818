-- The loop's invariant in `bits::lowest_number`: no number of the words before i passes a test of which the words tell.
use Prim.Native.Nat.{ℕ, ◌<◌, ◌≤◌}
use mathlib.Core.Bool.{Bool}
use Rattle.bits.specs.Sets.{Tells}
use Rattle.bits.proofs.Lowest.{NoneBefore}
use Rattle.bits.proofs.lowest_number.Given as goal

abbrev pub invariant-loop-i : goal.invariant-loop-i
invariant-loop-i g l = (l.i ≤ l.count) × ((test : ℕ → Bool) → ((i w : ℕ) → i < l.count → goal.F-post g l.word i w → Tells test i w) → NoneBefore test l.i)
