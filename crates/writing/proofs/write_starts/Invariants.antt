-- The loop's invariant in `writing::write_starts`: the RT records before q are put in after the LN records.
use Prim.Native.Nat.{◌+◌, ◌*◌, ◌≤◌}
use mathlib.Core.Path.{◌≡◌}
use lib.ListN.{length}
use Rattle.reading.specs.Parts.{placed, gathered}
use Rattle.writing.specs.Writing.{start_record}
use Rattle.writing.proofs.write_starts.Given as goal

abbrev pub invariant-loop-q : goal.invariant-loop-q
invariant-loop-q l = (l.q ≤ length l.starts) × (length l.bytes ≡ length l.initial.bytes) × (l.bytes ≡ placed l.initial.bytes (6 + 6 * l.count) (gathered (start_record l.starts) l.q))
