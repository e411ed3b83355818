-- `report::put_row` meets its contract. A line of rank 0 has a row of no bytes. Assumes nothing.
use mathlib.Core.Path.{sym, ◌∙◌}
use native.Mathlib.Omega.{arith}
use Rattle.report.proofs.Writing.{puts_none}
use Rattle.report.proofs.Text.{row_none, row_some}
use Rattle.report.proofs.put_row.Goals as goal

pub returns-then-round-eq0 : goal.returns-then-round-eq0
returns-then-round-eq0 c =
    let a = c.args in
    record { put = rw (row_none a.lines.now a.ranks.now a.place.0 (sym c.rank_at-round.ensures.rank ∙ c.if-round-eq0.true)) (puts_none a.text.now a.at (omega (arith, c.requires.0))); most = omega arith }

pub returns : goal.returns
returns c =
    let a = c.args in
    let e = c.rank_at-round.ensures.rank in
    let l = c.line_at-line.ensures.ends in
    record { put = rw (row_some a.lines.now a.ranks.now a.place.0 (λ z. c.if-round-eq0.false (e ∙ z))) (rw (e, l.0, l.1) at c.put_line.ensures.put); most = c.put_line.ensures.most }
