-- `report::put_word` meets its contract. Assumes nothing.
use mathlib.Core.Path.{◌≡◌}
use native.Mathlib.Nat.{add-zero}
use native.Mathlib.Omega.{arith}
use lib.ListN.{length}
use lib.Seq.{take-length}
use Rattle.report.proofs.Writing.{puts_none, puts_length, puts_more}
use Rattle.report.proofs.put_word.Goals as goal

pub loop-i-init : goal.loop-i-init
loop-i-init c = rw add-zero (puts_none c.args.text.now c.args.at (omega arith))

pub bounds-text-at : goal.bounds-text-at
bounds-text-at c = omega (arith, puts_length c.loop-i.invariant)

pub loop-i-preserved : goal.loop-i-preserved
loop-i-preserved c = puts_more c.args.word.now c.args.at c.loop-i.i c.loop-i.invariant (omega arith) (omega (arith, puts_length c.loop-i.invariant))

pub returns : goal.returns
returns c =
    let w = c.args.word.now in
    let e : c.loop-i.i ≡ length w = omega arith in
    record { put = rw (e, take-length w) at c.loop-i.invariant }
