-- The loop's invariant in `scan::scan_station`: ranks and marks are the definition's after the lines before the next place.
use Prim.Native.Nat.{ℕ, ◌/◌, ◌≤◌}
use mathlib.Core.Path.{◌≡◌}
use lib.ListN.{length}
use Rattle.laws.specs.Fold.{up_to}
use Rattle.bits.specs.Sets.{members}
use Rattle.rule.specs.Rule.{marks, take_line}
use Rattle.scan.specs.Asked.{Scannable}
use Rattle.scan.proofs.scan_station.Given as goal

abbrev pub invariant-loop-place : goal.invariant-loop-place
invariant-loop-place l =
    (l.place-iterator.end ≡ length l.lines / 2)
    × (l.place-iterator.next ≤ l.place-iterator.end)
    × (length l.ranks ≡ length l.initial.ranks)
    × (length l.marked ≡ 16)
    × ((n : ℕ) → Scannable n l.lines l.initial.ranks
    → marks l.ranks (members n l.marked) ≡ up_to (take_line l.lines l.round.0 l.u.0) (marks l.initial.ranks (members n l.initial.marked)) l.place-iterator.next)
