-- `entries::place_entry` meets its contract. Where the entry is new, the table is that of one entry more. Assumes nothing.
use native.Mathlib.Omega.{arith}
use Rattle.entries.proofs.Placing.{entry_placed}
use Rattle.entries.proofs.place_entry.Goals as goal

pub returns-clause-placed : goal.returns-clause-placed
returns-clause-placed c = λ e. entry_placed c.args.n c.args.order.now c.args.position.0 c.args.positions.now c.requires.3 (omega arith) (omega arith) (omega arith)
