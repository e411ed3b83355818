-- Which two stations a set of stations parts.
-- Assumes nothing.
use Rattle.std.specs.Prelude.{ℕ, ◌<◌, ◌≤◌, Bool, List}
use Rattle.pieces.specs.Joined.{Remains, Joined}

-- a is the lowest remaining station, and b the lowest one that is not joined to it.
pub record Parts (n : ℕ) (lines : List ℕ) (away : ℕ → Bool) (a b : ℕ) : Type 0 where
  pub first : Remains n away a
  pub lowest : (v : ℕ) → Remains n away v → a ≤ v
  pub second : Remains n away b
  pub apart : ¬ Joined n lines away a b
  pub below : (v : ℕ) → Remains n away v → v < b → Joined n lines away a v
