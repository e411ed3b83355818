-- `standing::put_weak_header` meets its contract. The parts, one after the other, are the header; a usize has at most 20 digits, so
-- they fit. Assumes nothing.
use native.Mathlib.Omega.{arith}
use borrow.Author.Rules.{rules}
use Rattle.standing.specs.Text.{weak_header_text}
use Rattle.report.proofs.Text.{wide_most}
use Rattle.report.proofs.Writing.{puts_length, puts_then}
use Rattle.standing.proofs.put_weak_header.Goals as goal

pub put_field-stations-requires : goal.put_field-stations-requires
put_field-stations-requires c =
    let a = c.args in
    omega (arith, c.requires, wide_most a.n (search rules), wide_most a.level.0 (search rules), wide_most a.count (search rules))

pub put_field-asked-requires : goal.put_field-asked-requires
put_field-asked-requires c =
    let a = c.args in
    omega (arith, c.requires, wide_most a.n (search rules), wide_most a.level.0 (search rules), wide_most a.count (search rules), c.put_field-stations.ensures.put.ends, puts_length c.put_field-stations.ensures.put)

pub put_field-lines-requires : goal.put_field-lines-requires
put_field-lines-requires c =
    let a = c.args in
    omega (arith, c.requires, wide_most a.n (search rules), wide_most a.level.0 (search rules), wide_most a.count (search rules), c.put_field-stations.ensures.put.ends, puts_length c.put_field-stations.ensures.put, c.put_field-asked.ensures.put.ends, puts_length c.put_field-asked.ensures.put)

pub put_newline-requires : goal.put_newline-requires
put_newline-requires c =
    let a = c.args in
    omega (arith, c.requires, wide_most a.n (search rules), wide_most a.level.0 (search rules), wide_most a.count (search rules), c.put_field-stations.ensures.put.ends, puts_length c.put_field-stations.ensures.put, c.put_field-asked.ensures.put.ends, puts_length c.put_field-asked.ensures.put, c.put_field-lines.ensures.put.ends, puts_length c.put_field-lines.ensures.put)

pub returns : goal.returns
unfolding weak_header_text
returns c =
    let a = c.args in
    record { put = puts_then (puts_then (puts_then c.put_field-stations.ensures.put c.put_field-asked.ensures.put) c.put_field-lines.ensures.put) c.put_newline.ensures.put; most = omega (arith, wide_most a.n (search rules), wide_most a.level.0 (search rules), wide_most a.count (search rules), c.put_field-stations.ensures.put.ends, c.put_field-asked.ensures.put.ends, c.put_field-lines.ensures.put.ends, c.put_newline.ensures.put.ends) }
