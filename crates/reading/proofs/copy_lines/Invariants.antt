-- The loop's invariant in `reading::copy_lines`: the ends of the records before p are put in from the front.
use Prim.Native.Nat.{◌≤◌}
use mathlib.Core.Path.{◌≡◌}
use lib.ListN.{length}
use Rattle.reading.specs.Parts.{placed}
use Rattle.reading.specs.Reading.{line_numbers}
use Rattle.reading.proofs.copy_lines.Given as goal

abbrev pub invariant-loop-p : goal.invariant-loop-p
invariant-loop-p l = (l.p ≤ l.count) × (length l.lines ≡ length l.initial.lines) × (l.lines ≡ placed l.initial.lines 0 (line_numbers l.bytes l.p))
