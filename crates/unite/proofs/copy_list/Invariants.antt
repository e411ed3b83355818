-- The loop's invariant in `unite::copy_list`: the first i numbers stand in the front of the room.
use mathlib.Core.Path.{◌≡◌}
use mathlib.Core.List.{◌++◌}
use lib.ListN.{take, drop}
use Rattle.unite.proofs.copy_list.Given as goal

abbrev pub invariant-loop-i : goal.invariant-loop-i
invariant-loop-i l = l.room ≡ take l.i l.lines ++ drop l.i l.initial.room
