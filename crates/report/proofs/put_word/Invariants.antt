-- The loop's invariant in `report::put_word`: the first i bytes of the word are written.
use Prim.Native.Nat.{◌+◌}
use lib.ListN.{take}
use Rattle.report.specs.Writing.{Puts}
use Rattle.report.proofs.put_word.Given as goal

abbrev pub invariant-loop-i : goal.invariant-loop-i
invariant-loop-i l = Puts l.initial.text l.at (take l.i l.word) l.text (l.at + l.i)
