-- `report::put_line` meets its contract. The parts, one after the other, are the row; a u8 has at most 3 digits and a u16 5, so they fit.
-- Assumes nothing.
use native.Mathlib.Omega.{arith}
use borrow.Author.Rules.{rules}
use Rattle.report.specs.Text.{line_text}
use Rattle.report.proofs.Writing.{puts_length, puts_then}
use Rattle.report.proofs.Text.{short_most, byte_most}
use Rattle.report.proofs.put_line.Goals as goal

pub put_field-taken-requires : goal.put_field-taken-requires
put_field-taken-requires c =
    let a = c.args in
    omega (arith, c.requires, byte_most a.round.0 (search rules))

pub put_field-placed-requires : goal.put_field-placed-requires
put_field-placed-requires c =
    let a = c.args in
    omega (arith, c.requires, byte_most a.round.0 (search rules), short_most a.place.0 (search rules), c.put_field-taken.ensures.put.ends, puts_length c.put_field-taken.ensures.put)

pub put_field-left-requires : goal.put_field-left-requires
put_field-left-requires c =
    let a = c.args in
    omega (arith, c.requires, byte_most a.round.0 (search rules), short_most a.place.0 (search rules), short_most a.line.one.0 (search rules), short_most a.line.two.0 (search rules), c.put_field-taken.ensures.put.ends, puts_length c.put_field-taken.ensures.put, c.put_field-placed.ensures.put.ends, puts_length c.put_field-placed.ensures.put)

pub put_field-joined-requires : goal.put_field-joined-requires
put_field-joined-requires c =
    let a = c.args in
    omega (arith, c.requires, byte_most a.round.0 (search rules), short_most a.place.0 (search rules), short_most a.line.one.0 (search rules), short_most a.line.two.0 (search rules), c.put_field-taken.ensures.put.ends, puts_length c.put_field-taken.ensures.put, c.put_field-placed.ensures.put.ends, puts_length c.put_field-placed.ensures.put, c.put_field-left.ensures.put.ends, puts_length c.put_field-left.ensures.put)

pub put_newline-requires : goal.put_newline-requires
put_newline-requires c =
    let a = c.args in
    omega (arith, c.requires, byte_most a.round.0 (search rules), short_most a.place.0 (search rules), short_most a.line.one.0 (search rules), short_most a.line.two.0 (search rules), c.put_field-taken.ensures.put.ends, puts_length c.put_field-taken.ensures.put, c.put_field-placed.ensures.put.ends, puts_length c.put_field-placed.ensures.put, c.put_field-left.ensures.put.ends, puts_length c.put_field-left.ensures.put, c.put_field-joined.ensures.put.ends, puts_length c.put_field-joined.ensures.put)

pub returns : goal.returns
unfolding line_text
returns c =
    let a = c.args in
    let good = c.well_formed.1.1 in
    record { put = puts_then (puts_then (puts_then (puts_then c.put_field-taken.ensures.put c.put_field-placed.ensures.put) c.put_field-left.ensures.put) c.put_field-joined.ensures.put) c.put_newline.ensures.put; most = omega (arith, byte_most a.round.0 (omega (arith, good.0)), short_most a.place.0 (omega (arith, good.1.0)), short_most a.line.one.0 (omega (arith, good.1.1.0)), short_most a.line.two.0 (omega (arith, good.1.1.0)), c.put_field-taken.ensures.put.ends, c.put_field-placed.ensures.put.ends, c.put_field-left.ensures.put.ends, c.put_field-joined.ensures.put.ends, c.put_newline.ensures.put.ends) }
