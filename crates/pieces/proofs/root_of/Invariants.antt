-- The loop's invariant in `pieces::root_of`: the table leads to the same names, and v is of the station's piece. The measure is v, which falls at
-- each entry that is not its own.
use Prim.Native.Nat.{ℕ, ◌<◌}
use mathlib.Core.List.{List}
use mathlib.Core.Path.{◌≡◌}
use lib.ListN.{length, get_or}
use Rattle.pieces.specs.Tables.{Leads}
use Rattle.pieces.proofs.root_of.Given as goal

abbrev pub invariant-loop-pieces : goal.invariant-loop-pieces
invariant-loop-pieces l = (l.v.0 < length l.initial.pieces) × (length l.pieces ≡ length l.initial.pieces) × ((names : List ℕ) → Leads names l.initial.pieces → Leads names l.pieces × (get_or names l.v.0 0 ≡ get_or names l.initial.v.0 0))

abbrev pub decreases-loop-pieces : goal.decreases-loop-pieces
decreases-loop-pieces l = l.v.0
