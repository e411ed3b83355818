-- `report::put_byte` meets its contract. A store is a part of one byte. Assumes nothing.
use Rattle.report.proofs.Writing.{puts_byte}
use Rattle.report.proofs.put_byte.Goals as goal

pub returns : goal.returns
returns c = record { put = puts_byte c.args.text.now c.args.at c.args.byte c.requires }
