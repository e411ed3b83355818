-- The loop's invariant in `rounds::check_lines`: what is left to look at from the next place on is the verdict.
use Rattle.rounds.specs.Tables.{trees_verdict, all_trees_verdict}
use Rattle.plans.specs.Verdicts.{Verdict.accepted, is_faulty}
use Prim.Native.Nat.{◌-◌, ◌/◌, ◌≤◌}
use lib.ListN.{length}
use mathlib.Core.Path.{◌≡◌}
use Rattle.laws.specs.Fold.{first_from}
use Rattle.rounds.proofs.check_lines.Given as goal

abbrev pub invariant-loop-place : goal.invariant-loop-place
invariant-loop-place l =
    let next = l.place-iterator.next in
    (l.place-iterator.end ≡ length l.network.lines.now / 2)
    × (next ≤ l.place-iterator.end)
    × (all_trees_verdict l.network.lines.now l.ranks l.round.0 l.positions l.trees ≡ first_from is_faulty (trees_verdict l.network.lines.now l.ranks l.round.0 l.positions l.trees) accepted next (length l.network.lines.now / 2 - next))
