-- The loop's invariant in `earlier::mark_lines`: the lines before the next place are in the set too, and the places before it are marked as defined.
use Prim.Native.Nat.{◌/◌, ◌≤◌}
use mathlib.Core.Path.{◌≡◌}
use lib.ListN.{length}
use Rattle.earlier.specs.Pairs.{remembered, marked}
use Rattle.earlier.proofs.mark_lines.Given as goal

abbrev pub invariant-loop-place : goal.invariant-loop-place
invariant-loop-place l =
    (l.place-iterator.end ≡ length l.lines / 2)
    × (l.place-iterator.next ≤ l.place-iterator.end)
    × (length l.pairs ≡ length l.initial.pairs)
    × (length l.again ≡ length l.initial.again)
    × (l.pairs ≡ remembered l.lines l.initial.pairs l.place-iterator.next)
    × (l.again ≡ marked l.lines l.initial.pairs l.initial.again l.place-iterator.next)
