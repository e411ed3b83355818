-- The loop's invariant in `reading::read_records`: the records passed are whole, and what is left to read is the answer. The measure is the bytes
-- less the records passed.
use Prim.Native.Nat.{◌+◌, ◌-◌, ◌≤◌}
use mathlib.Core.Path.{◌≡◌}
use lib.ListN.{length}
use Rattle.reading.specs.Reading.{offset_after, records_read}
use Rattle.reading.proofs.read_records.Given as goal

abbrev pub invariant-loop-lines : goal.invariant-loop-lines
invariant-loop-lines l = (offset_after l.lines l.starts ≤ length l.bytes) × (records_read l.bytes 0 0 (length l.bytes) ≡ records_read l.bytes l.lines l.starts (length l.bytes - (l.lines + l.starts)))

abbrev pub decreases-loop-lines : goal.decreases-loop-lines
decreases-loop-lines l = length l.bytes - (l.lines + l.starts)
