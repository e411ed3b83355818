-- The loop's invariant in `neighbours::sum_counts`: the counts below v are summed.
use Prim.Native.Nat.{◌≤◌}
use mathlib.Core.Path.{◌≡◌}
use Rattle.neighbours.specs.Ranks.{Summed, below}
use Rattle.neighbours.proofs.sum_counts.Given as goal

abbrev pub invariant-loop-v : goal.invariant-loop-v
invariant-loop-v l = Summed l.network.n l.network.lines.now l.v l.begins × (l.sum ≡ below l.network.lines.now l.v) × (l.v ≤ l.network.n)
