-- `report::put_refusal` meets its contract. The parts, one after the other, are the row; a usize has at most 20 digits, so they fit.
-- Assumes nothing.
use native.Mathlib.Omega.{arith}
use borrow.Author.Rules.{rules}
use Rattle.report.proofs.Writing.{puts_length, puts_then}
use Rattle.report.proofs.Text.{wide_most}
use Rattle.report.specs.Text.{refused_text}
use Rattle.report.proofs.put_refusal.Goals as goal

pub put_field-refused-requires : goal.put_field-refused-requires
put_field-refused-requires c =
    let a = c.args in
    omega (arith, c.requires, wide_most a.number (search rules))

pub put_field-placed-requires : goal.put_field-placed-requires
put_field-placed-requires c =
    let a = c.args in
    omega (arith, c.requires, wide_most a.number (search rules), wide_most a.place.0 (search rules), c.put_field-refused.ensures.put.ends, puts_length c.put_field-refused.ensures.put)

pub put_newline-requires : goal.put_newline-requires
put_newline-requires c =
    let a = c.args in
    omega (arith, c.requires, wide_most a.number (search rules), wide_most a.place.0 (search rules), c.put_field-refused.ensures.put.ends, puts_length c.put_field-refused.ensures.put, c.put_field-placed.ensures.put.ends, puts_length c.put_field-placed.ensures.put)

pub returns : goal.returns
unfolding refused_text
returns c = record { put = puts_then (puts_then c.put_field-refused.ensures.put c.put_field-placed.ensures.put) c.put_newline.ensures.put }
