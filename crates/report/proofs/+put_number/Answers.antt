-- `report::put_number` meets its contract. A number below 10 is one byte; else its call of itself writes the digits of x / 10, and x % 10
-- follows. Assumes nothing.
use mathlib.Core.Path.{ap}
use native.Mathlib.Omega.{arith}
use lib.ListN.{length, length-append}
use Rattle.report.proofs.Writing.{puts_length, puts_then}
use Rattle.report.proofs.Text.{decimal_one, decimal_more}
use Rattle.report.proofs.+put_number.Goals as goal

pub put_byte-requires : goal.put_byte-requires
put_byte-requires t c = omega (arith, ap length (decimal_one c.args.x c.if-x-lt10.true), c.requires)

pub returns-then-x-lt10 : goal.returns-then-x-lt10
returns-then-x-lt10 t c = record { put = rw (decimal_one c.args.x c.if-x-lt10.true) c.put_byte.ensures.put }

pub put_number-next-requires : goal.put_number-next-requires
put_number-next-requires t c = let e = simp length-append at (ap length (decimal_more c.args.x c.if-x-lt10.false)) in (omega (arith, c.if-x-lt10.false), omega (arith, c.requires))

pub put_byte-requires-2 : goal.put_byte-requires-2
put_byte-requires-2 t c = let e = simp length-append at (ap length (decimal_more c.args.x c.if-x-lt10.false)) in omega (arith, c.requires, c.put_number-next.ensures.put.ends, puts_length c.put_number-next.ensures.put)

pub returns : goal.returns
returns t c = record { put = rw (decimal_more c.args.x c.if-x-lt10.false) (puts_then c.put_number-next.ensures.put c.put_byte-2.ensures.put) }
