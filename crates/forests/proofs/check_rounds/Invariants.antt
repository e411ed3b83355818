-- The loop's invariant in `forests::check_rounds`: what is left to look at from round i + 1 on is the verdict.
use Rattle.plans.specs.Verdicts.{Verdict.accepted, is_faulty}
use Rattle.rounds.specs.Tables.{Room}
use Rattle.plans.specs.Orders.{order_of}
use Rattle.plans.specs.Checking.{round_verdict, rounds_verdict}
use Rattle.laws.specs.Fold.{first_from}
use mathlib.Core.Path.{◌≡◌}
use Prim.Native.Nat.{◌+◌, ◌-◌}
use Rattle.forests.proofs.check_rounds.Given as goal

abbrev pub invariant-loop-i : goal.invariant-loop-i
invariant-loop-i l = Room l.network.n l.positions l.sightings l.trees
    × (rounds_verdict l.network.n l.fn.level.0 l.network.lines.now l.ranks l.orders ≡ first_from is_faulty (λ j. round_verdict l.network.n l.network.lines.now l.ranks (j + 1) (order_of l.network.n l.orders j)) accepted l.i (l.fn.level.0 - l.i))
