-- When two lists can be united into a room.
-- Assumes nothing.
use Rattle.std.specs.Prelude.{ℕ, ◌≤◌, List, length}
use Rattle.network.specs.Faults.{Sound}
use Rattle.unite.specs.Union.{united}

-- Both lists are sound, their union is within the line limit, and it fits into the room for numbers.
pub record Unites (n : ℕ) (first second : List ℕ) (room : ℕ) : Type 0 where
  pub one : Sound n first
  pub two : Sound n second
  pub few : length (united first second) ≤ 16384
  pub fits : length (united first second) ≤ room
