-- The loop's invariant in `reading::copy_starts`: the starting stations of the records before q are put in from the front.
use Prim.Native.Nat.{◌≤◌}
use mathlib.Core.Path.{◌≡◌}
use lib.ListN.{length}
use Rattle.reading.specs.Parts.{placed}
use Rattle.reading.specs.Reading.{start_numbers}
use Rattle.reading.proofs.copy_starts.Given as goal

abbrev pub invariant-loop-q : goal.invariant-loop-q
invariant-loop-q l = (l.q ≤ l.count) × (length l.starts ≡ length l.initial.starts) × (l.starts ≡ placed l.initial.starts 0 (start_numbers l.bytes l.m l.q))
