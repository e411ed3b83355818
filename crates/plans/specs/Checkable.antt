-- What may be checked: the refusals 1, 2, 3, 5 and those of the lines do not hold.
-- Assumes nothing.
use Rattle.std.specs.Prelude.{ℕ, ◌*◌, ◌/◌, ◌≤◌, List, length}
use Rattle.network.specs.Faults.{Sound}

-- A sound list, a level from 1 to 16, a rank for each line, and an entry for each station of each round.
pub record Checkable (n k : ℕ) (lines ranks orders : List ℕ) : Type 0 where
  pub sound : Sound n lines
  pub some : 1 ≤ k
  pub most : k ≤ 16
  pub ranked : length lines / 2 ≤ length ranks
  pub ordered : k * n ≤ length orders
