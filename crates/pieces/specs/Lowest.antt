-- What the name of a piece is: its lowest station.
-- Assumes nothing.
use Rattle.std.specs.Prelude.{ℕ, ◌≤◌, Bool, List}
use Rattle.pieces.specs.Joined.{Joined}

-- A station is joined to v, is at most v, and no station joined to v is lower.
pub record LowestJoined (n : ℕ) (lines : List ℕ) (away : ℕ → Bool) (v name : ℕ) : Type 0 where
  pub joins : Joined n lines away v name
  pub most : name ≤ v
  pub lowest : (w : ℕ) → Joined n lines away v w → name ≤ w
