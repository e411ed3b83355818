-- The loop's invariant in `writing::write_lines`: the LN records before p are put in after NW.
use Prim.Native.Nat.{◌/◌, ◌≤◌}
use mathlib.Core.Path.{◌≡◌}
use lib.ListN.{length}
use Rattle.reading.specs.Parts.{placed, gathered}
use Rattle.writing.specs.Writing.{line_record}
use Rattle.writing.proofs.write_lines.Given as goal

abbrev pub invariant-loop-p : goal.invariant-loop-p
invariant-loop-p l = (l.p ≤ length l.lines / 2) × (length l.bytes ≡ length l.initial.bytes) × (l.bytes ≡ placed l.initial.bytes (6) (gathered (line_record l.lines) l.p))
