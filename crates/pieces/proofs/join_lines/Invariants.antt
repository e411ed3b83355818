-- The loop's invariant in `pieces::join_lines`: the table leads to the definition's names after the lines before the next place.
use Prim.Native.Nat.{ℕ, ◌/◌, ◌≤◌}
use mathlib.Core.List.{List}
use mathlib.Core.Path.{◌≡◌}
use lib.ListN.{length}
use Rattle.laws.specs.Fold.{up_to}
use Rattle.pieces.specs.Pieces.{join_line}
use Rattle.pieces.specs.Away.{is_gone}
use Rattle.pieces.specs.Tables.{Leads}
use Rattle.pieces.proofs.join_lines.Given as goal

abbrev pub invariant-loop-place : goal.invariant-loop-place
invariant-loop-place l =
    (l.place-iterator.end ≡ length l.lines / 2)
    × (l.place-iterator.next ≤ l.place-iterator.end)
    × (length l.pieces ≡ length l.initial.pieces)
    × ((names : List ℕ) → Leads names l.initial.pieces → Leads (up_to (join_line l.lines (is_gone l.gone)) names l.place-iterator.next) l.pieces)
