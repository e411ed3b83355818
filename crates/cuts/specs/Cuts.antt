-- Cut stations: those that, taken away too, leave two of the others not joined.
-- Assumes nothing.
use Rattle.std.specs.Prelude.{ℕ, ◌≡◌, Bool, true, false, ◌||◌, List, get_or, eqb}
use Rattle.pieces.specs.Joined.{Remains, Whole, Parted}

-- Station w is taken away too.
abbrev pub and_away : (ℕ → Bool) → ℕ → ℕ → Bool
and_away away w v = away v || eqb w v

-- A table says of each remaining station whether taking it away too leaves two others not joined.
pub record SaysCuts (n : ℕ) (lines : List ℕ) (away : ℕ → Bool) (cut : List Bool) : Type 0 where
  pub parted : (w : ℕ) → Remains n away w → get_or cut w false ≡ true → Parted n lines (and_away away w)
  pub whole : (w : ℕ) → Remains n away w → get_or cut w false ≡ false → Whole n lines (and_away away w)
