-- What the judge's words mean: a list that is sound, and a line that is not at fault.
-- Assumes nothing.
use Rattle.std.specs.Prelude.{ℕ, ◌<◌, ◌≢◌, List}
use Rattle.network.specs.Lines.{end_one, end_two, network, Joins, Simple, Within}

-- Within the limits, and simple.
pub record Sound (n : ℕ) (lines : List ℕ) : Type 0 where
  pub within : Within n lines
  pub simple : Simple (network n lines)

-- Two ends that are stations, and differ.
pub record EndsGood (n a b : ℕ) : Type 0 where
  pub one_in : a < n
  pub two_in : b < n
  pub apart : a ≢ b

-- Line p is not at fault: its ends are good, and no earlier line has them.
pub record LineGood (n : ℕ) (lines : List ℕ) (p : ℕ) : Type 0 where
  pub ends : EndsGood n (end_one lines p) (end_two lines p)
  pub new : (q : ℕ) → q < p → ¬ Joins (network n lines) q (end_one lines p) (end_two lines p)
