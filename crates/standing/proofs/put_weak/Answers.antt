-- `standing::put_weak` meets its contract. The parts, one after the other, are the row; they fit in 64 bytes. Assumes nothing.
use native.Mathlib.Omega.{arith}
use borrow.Author.Rules.{rules}
use Rattle.standing.specs.Text.{weak_row_text}
use Rattle.report.proofs.Text.{short_most}
use Rattle.report.proofs.Writing.{puts_length, puts_then}
use Rattle.standing.proofs.put_weak.Goals as goal

pub put_field-parted-requires : goal.put_field-parted-requires
put_field-parted-requires c =
    let a = c.args in
    omega (arith, c.requires, short_most a.weak.one.0 (search rules), short_most a.weak.two.0 (search rules), c.put_word-word.ensures.put.ends, puts_length c.put_word-word.ensures.put, c.put_spot-stations.ensures.most, puts_length c.put_spot-stations.ensures.put)

pub put_field-left-requires : goal.put_field-left-requires
put_field-left-requires c =
    let a = c.args in
    omega (arith, c.requires, short_most a.weak.one.0 (search rules), short_most a.weak.two.0 (search rules), c.put_word-word.ensures.put.ends, puts_length c.put_word-word.ensures.put, c.put_spot-stations.ensures.most, puts_length c.put_spot-stations.ensures.put, c.put_field-parted.ensures.put.ends, puts_length c.put_field-parted.ensures.put)

pub put_newline-requires : goal.put_newline-requires
put_newline-requires c =
    let a = c.args in
    omega (arith, c.requires, short_most a.weak.one.0 (search rules), short_most a.weak.two.0 (search rules), c.put_word-word.ensures.put.ends, puts_length c.put_word-word.ensures.put, c.put_spot-stations.ensures.most, puts_length c.put_spot-stations.ensures.put, c.put_field-parted.ensures.put.ends, puts_length c.put_field-parted.ensures.put, c.put_field-left.ensures.put.ends, puts_length c.put_field-left.ensures.put)

pub returns : goal.returns
unfolding weak_row_text
returns c = record { put = puts_then (puts_then (puts_then (puts_then c.put_word-word.ensures.put c.put_spot-stations.ensures.put) c.put_field-parted.ensures.put) c.put_field-left.ensures.put) c.put_newline.ensures.put }
