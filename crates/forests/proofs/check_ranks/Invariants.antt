-- The loop's invariant in `forests::check_ranks`: what is left to look at from the next place on is the verdict.
use Rattle.plans.specs.Checking.{rank_verdict, ranks_verdict}
use Rattle.plans.specs.Verdicts.{Verdict.accepted, is_faulty}
use Prim.Native.Nat.{◌-◌, ◌/◌, ◌≤◌}
use mathlib.Core.Path.{◌≡◌}
use lib.ListN.{length}
use Rattle.laws.specs.Fold.{first_from}
use Rattle.forests.proofs.check_ranks.Given as goal

abbrev pub invariant-loop-place : goal.invariant-loop-place
invariant-loop-place l =
    let next = l.place-iterator.next in
    (l.place-iterator.end ≡ length l.lines / 2)
    × (next ≤ l.place-iterator.end)
    × (ranks_verdict l.level.0 l.lines l.ranks ≡ first_from is_faulty (rank_verdict l.level.0 l.ranks) accepted next (length l.lines / 2 - next))
