-- The loop's invariant in `kept::pack_lines`: the front of the room holds the chosen lines before the next place.
use Prim.Native.Nat.{ℕ, ◌*◌, ◌/◌, ◌≤◌}
use mathlib.Core.Bool.{Bool}
use mathlib.Core.List.{[]}
use mathlib.Core.Path.{◌≡◌}
use lib.ListN.{length}
use Rattle.laws.specs.Fold.{up_to}
use Rattle.laws.specs.Count.{count}
use Rattle.kept.specs.Chosen.{Chooses}
use Rattle.kept.specs.Filled.{Fronted}
use Rattle.kept.specs.Kept.{put_line}
use Rattle.kept.proofs.pack_lines.Given as goal

abbrev pub invariant-loop-place : goal.invariant-loop-place
invariant-loop-place g l =
    (l.place-iterator.end ≡ length l.lines / 2)
    × (l.place-iterator.next ≤ l.place-iterator.end)
    × ((test : ℕ → Bool)
    → Chooses (goal.F-post g l.chosen) test (length l.lines / 2)
    → 2 * count (length l.lines / 2) test ≡ length l.initial.room
    → Fronted (up_to (put_line test l.lines) [] l.place-iterator.next) l.at l.room)
