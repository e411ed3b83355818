-- `standing::put_spot` meets its contract. Each arm rewrites by the spot that it is of; a u16 has at most 5 digits, so two stations
-- fit in 12 bytes. Assumes nothing.
use mathlib.Core.List.{append-nil}
use native.Mathlib.Omega.{arith}
use borrow.Author.Rules.{rules}
use Rattle.standing.specs.Text.{spot_text}
use Rattle.report.proofs.Text.{short_most}
use Rattle.report.proofs.Writing.{puts_none, puts_length, puts_then}
use Rattle.standing.proofs.put_spot.Goals as goal

pub put_field-requires : goal.put_field-requires
put_field-requires c = omega (arith, c.requires, short_most c.in-One.v.0 (search rules))

pub put_field-next-requires : goal.put_field-next-requires
put_field-next-requires c = omega (arith, c.requires, short_most c.in-Two.v.0 (search rules))

pub put_field-requires-in-Two : goal.put_field-requires-in-Two
put_field-requires-in-Two c = omega (arith, c.requires, short_most c.in-Two.v.0 (search rules), short_most c.in-Two.w.0 (search rules), c.put_field-next.ensures.put.ends, puts_length c.put_field-next.ensures.put)

pub returns-in-Empty : goal.returns-in-Empty
unfolding spot_text
returns-in-Empty c =
    let a = c.args in
    record { put = rw c.in-Empty.is (puts_none a.text.now a.at (omega (arith, c.requires))); most = omega arith }

pub returns-in-One : goal.returns-in-One
unfolding spot_text
returns-in-One c = record { put = rw (c.in-One.is, append-nil) c.put_field.ensures.put; most = omega (arith, short_most c.in-One.v.0 (search rules), c.put_field.ensures.put.ends) }

pub returns-in-Two : goal.returns-in-Two
unfolding spot_text
returns-in-Two c = record { put = rw (c.in-Two.is, append-nil) (puts_then c.put_field-next.ensures.put c.put_field-in-Two.ensures.put); most = omega (arith, short_most c.in-Two.v.0 (search rules), short_most c.in-Two.w.0 (search rules), c.put_field-next.ensures.put.ends, c.put_field-in-Two.ensures.put.ends) }
