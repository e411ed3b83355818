-- The loop's invariant in `entries::check_order`: the first j entries are placed, and what is left to look at from j on is the verdict.
use mathlib.Core.Path.{◌≡◌}
use Rattle.entries.specs.Placed.{Placed}
use Rattle.plans.specs.Checking.{entry_verdict, order_verdict}
use Prim.Native.Nat.{◌-◌, ◌≤◌}
use Rattle.plans.specs.Verdicts.{Verdict.accepted, is_faulty}
use lib.ListN.{length}
use Rattle.laws.specs.Fold.{first_from}
use Rattle.entries.proofs.check_order.Given as goal

abbrev pub invariant-loop-j : goal.invariant-loop-j
invariant-loop-j l = (l.j ≤ l.n) × (length l.positions ≡ length l.initial.positions) × Placed l.n l.order l.j l.positions × (order_verdict l.n l.round.0 l.order ≡ first_from is_faulty (entry_verdict l.n l.round.0 l.order) accepted l.j (l.n - l.j))
