-- The loop's invariant in `seen::see_lines`: the tables are the definition's after the lines before the next place.
use Rattle.seen.specs.Tables.{see_line}
use Rattle.seen.specs.Sightings.{tables}
use Rattle.laws.specs.Fold.{up_to}
use Prim.Native.Nat.{◌/◌, ◌≤◌}
use lib.ListN.{length}
use mathlib.Core.Path.{◌≡◌}
use Rattle.seen.proofs.see_lines.Given as goal

abbrev pub invariant-loop-place : goal.invariant-loop-place
invariant-loop-place l =
    (l.place-iterator.end ≡ length l.network.lines.now / 2)
    × (l.place-iterator.next ≤ l.place-iterator.end)
    × (length l.sightings ≡ length l.initial.sightings)
    × (tables l.sightings ≡ up_to (see_line l.network.lines.now l.ranks l.round.0 l.positions) (tables l.initial.sightings) l.place-iterator.next)
