-- The loop's invariant in `tries::try_twos`: what is left to try from first station v on is the answer, and no mark is set.
use Prim.Native.Nat.{◌-◌, ◌≤◌}
use mathlib.Core.Path.{◌≡◌}
use lib.ListN.{length}
use Rattle.laws.specs.Fold.{first_from}
use Rattle.pieces.specs.Away.{Unmarked}
use Rattle.parting.specs.Standing.{Standing.stands, is_weak}
use Rattle.tries.specs.Tries.{without_seconds, without_twos}
use Rattle.tries.proofs.try_twos.Given as goal

abbrev pub invariant-loop-v : goal.invariant-loop-v
invariant-loop-v l = (l.v ≤ l.network.n) × (length l.gone ≡ l.network.n) × Unmarked l.gone × (length l.pieces ≡ l.network.n) × (length l.cut ≡ l.network.n) × (without_twos l.network.n l.network.lines.now ≡ first_from is_weak (without_seconds l.network.n l.network.lines.now) stands l.v (l.network.n - l.v))
