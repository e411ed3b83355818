-- The loop's invariant in `rounds::check_stations`: what is left to look at from j on is the verdict.
use Rattle.seen.specs.Sightings.{tables}
use Rattle.rounds.specs.Tables.{seen_verdict, all_seen_verdict}
use Rattle.plans.specs.Verdicts.{Verdict.accepted, is_faulty}
use Prim.Native.Nat.{◌-◌}
use lib.ListN.{length}
use mathlib.Core.Path.{◌≡◌}
use Rattle.laws.specs.Fold.{first_from}
use Rattle.rounds.proofs.check_stations.Given as goal

abbrev pub invariant-loop-j : goal.invariant-loop-j
invariant-loop-j l =
    all_seen_verdict (length l.order) l.round.0 l.order (tables l.sightings)
    ≡ first_from is_faulty (seen_verdict l.round.0 l.order (tables l.sightings)) accepted l.j (length l.order - l.j)
