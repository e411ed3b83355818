-- The laws of tries of sets, one after the other.
-- Assumes nothing.

-- A try that finds a weak spot is the answer.

use mathlib.Core.Path.{◌≡◌, refl, sym}
use mathlib.Core.Bool.{true, false, true≢false}
use Rattle.parting.specs.Standing.{Standing, Standing.stands, Standing.weak, is_weak}
use Rattle.tries.specs.Tries.{◌or_else◌}

pub else_weak : (a b : Standing) → is_weak a ≡ true → a or_else b ≡ a
else_weak stands b e = absurd (true≢false (sym e))
else_weak (weak spot x y) b e = refl

-- A try that finds none is passed over.
pub else_next : (a b : Standing) → is_weak a ≡ false → a or_else b ≡ b
else_next stands b e = refl
else_next (weak spot x y) b e = absurd (true≢false e)
