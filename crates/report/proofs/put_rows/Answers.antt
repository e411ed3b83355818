-- `report::put_rows` meets its contract: a row more stands behind those before it. Assumes nothing.
use native.Mathlib.Omega.{arith}
use mathlib.Core.List.{[]}
use Rattle.laws.proofs.Fold.{up_to_more}
use Rattle.report.specs.Text.{add_row}
use Rattle.report.proofs.Writing.{puts_then}
use Rattle.report.proofs.put_rows.Goals as goal

pub loop-place-preserved : goal.loop-place-preserved
loop-place-preserved c =
    let (ends, most, puts, room) = c.loop-place.invariant in
    let (same, (below, is, more)) = c.in-Some.ensures.steps in
    let row = c.put_row-next.ensures in (
      omega arith,
      omega arith,
      rw (more, up_to_more (add_row c.args.lines.now c.args.ranks.now) [] c.loop-place.place-iterator.next) (puts_then puts (rw is at row.put)),
      omega (arith, row.most),
    )
