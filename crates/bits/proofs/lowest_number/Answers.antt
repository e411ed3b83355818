-- `bits::lowest_number` meets its contract: what a word's bits tell, the loop has at hand for the word that it looks at. Assumes nothing.
use mathlib.Core.Path.{◌∙◌}
use native.Mathlib.Omega.{arith}
use Rattle.bits.proofs.Lowest.{lowest_here}
use Rattle.bits.proofs.lowest_number.Goals as goal

pub returns-then-bits-ne0 : goal.returns-then-bits-ne0
returns-then-bits-ne0 g c =
    record { lowest = λ test told. c.lowest_bit.ensures.number ∙ lowest_here (told c.loop-i.i c.word-bits.result (omega arith) c.word-bits.ensures) (c.loop-i.invariant.1 test told) (omega arith) c.if-bits-ne0.true }
