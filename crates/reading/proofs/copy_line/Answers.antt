-- `reading::copy_line` meets its contract. Two stores side by side put in the two ends. Assumes nothing.
use Prim.Native.Nat.{◌*◌}
use native.Mathlib.Omega.{arith}
use lib.ListN.{length-set}
use Rattle.reading.proofs.Parts.{store_two}
use Rattle.reading.proofs.copy_line.Goals as goal

pub bounds-lines-p-2 : goal.bounds-lines-p-2
bounds-lines-p-2 c = simp length-set (omega arith)

pub returns : goal.returns
returns c =
    record {
      lines = (let a = c.args in
          rw (c.number_at-one.ensures.number, c.number_at-two.ensures.number) (store_two a.lines.now (2 * a.place.0) _ _ (omega arith)));
    }
