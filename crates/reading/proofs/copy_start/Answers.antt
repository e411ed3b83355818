-- `reading::copy_start` meets its contract. One store puts in the starting station. Assumes nothing.
use native.Mathlib.Omega.{arith}
use Rattle.reading.proofs.Parts.{store_one}
use Rattle.reading.proofs.copy_start.Goals as goal

pub returns : goal.returns
returns c =
    record {
      starts = (let a = c.args in
          rw c.number_at-start.ensures.number (store_one a.starts.now a.position.0 _ (omega arith)));
    }
