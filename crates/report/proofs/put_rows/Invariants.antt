-- The loop's invariant in `report::put_rows`: the rows of the lines before the next place are written, in at most 64 bytes each.
use Prim.Native.Nat.{◌+◌, ◌≤◌, ◌*◌, ◌/◌}
use lib.ListN.{length}
use mathlib.Core.List.{[]}
use mathlib.Core.Path.{◌≡◌}
use Rattle.laws.specs.Fold.{up_to}
use Rattle.report.specs.Writing.{Puts}
use Rattle.report.specs.Text.{add_row}
use Rattle.report.proofs.put_rows.Given as goal

abbrev pub invariant-loop-place : goal.invariant-loop-place
invariant-loop-place l =
    (l.place-iterator.end ≡ length l.lines / 2)
    × (l.place-iterator.next ≤ l.place-iterator.end)
    × Puts l.initial.text l.at (up_to (add_row l.lines l.ranks) [] l.place-iterator.next) l.text l.next
    × (l.next ≤ l.at + 64 * l.place-iterator.next)
