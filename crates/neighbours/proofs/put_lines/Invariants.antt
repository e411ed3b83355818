-- The loop's invariant in `neighbours::put_lines`: the ends of the lines before the next place are laid.
use Prim.Native.Nat.{◌*◌, ◌/◌, ◌≤◌}
use mathlib.Core.Path.{◌≡◌}
use lib.ListN.{length}
use Rattle.neighbours.specs.Ranks.{Filled}
use Rattle.neighbours.proofs.put_lines.Given as goal

abbrev pub invariant-loop-place : goal.invariant-loop-place
invariant-loop-place l =
    (l.place-iterator.end ≡ length l.network.lines.now / 2)
    × (l.place-iterator.next ≤ l.place-iterator.end)
    × Filled l.network.n l.network.lines.now (2 * l.place-iterator.next) l.begins l.near
