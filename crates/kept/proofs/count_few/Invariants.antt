-- The loop's invariant in `kept::count_few`: `kept` counts the nonzero ranks gone through.
use Prim.Native.Nat.{◌≤◌}
use mathlib.Core.Path.{◌≡◌}
use mathlib.Core.Bool.{not}
use lib.Dec.{eqb}
use lib.ListN.{length, get_or}
use Rattle.laws.specs.Count.{count}
use Rattle.kept.proofs.count_few.Given as goal

abbrev pub invariant-loop-rank : goal.invariant-loop-rank
invariant-loop-rank l = (l.rank-index ≤ length l.ranks) × (l.kept ≤ l.rank-index) × (l.kept ≡ count l.rank-index (λ q. not (eqb (get_or l.ranks q 0) 0)))
