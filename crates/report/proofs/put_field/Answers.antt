-- `report::put_field` meets its contract. The word and the digits, one after the other, are one part. Assumes nothing.
use native.Mathlib.Omega.{arith}
use lib.ListN.{length-append}
use Rattle.report.proofs.Writing.{puts_length, puts_then}
use Rattle.report.proofs.put_field.Goals as goal

pub put_word-next-requires : goal.put_word-next-requires
put_word-next-requires c = omega (arith, simp length-append at c.requires)

pub put_number-requires : goal.put_number-requires
put_number-requires c = omega (arith, simp length-append at c.requires, c.put_word-next.ensures.put.ends, puts_length c.put_word-next.ensures.put)

pub returns : goal.returns
returns c = record { put = puts_then c.put_word-next.ensures.put c.put_number.ensures.put }
