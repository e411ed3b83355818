-- The loop's invariant in `earlier::remember_lines`: the lines before the next place are in the set too.
use Prim.Native.Nat.{◌/◌, ◌≤◌}
use mathlib.Core.Path.{◌≡◌}
use lib.ListN.{length}
use Rattle.earlier.specs.Pairs.{remembered}
use Rattle.earlier.proofs.remember_lines.Given as goal

abbrev pub invariant-loop-place : goal.invariant-loop-place
invariant-loop-place l =
    (l.place-iterator.end ≡ length l.lines / 2) × (l.place-iterator.next ≤ l.place-iterator.end)
    × (length l.pairs ≡ length l.initial.pairs) × (l.pairs ≡ remembered l.lines l.initial.pairs l.place-iterator.next)
