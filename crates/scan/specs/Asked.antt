-- What a round's helpers ask of their arguments. Only they speak of it.
-- Assumes nothing.
use Rattle.std.specs.Prelude.{ℕ, ◌*◌, ◌<◌, ◌≤◌, ◌≡◌, List, length}
use Rattle.network.specs.Lines.{end_one, end_two}

-- A network that rounds can scan, with a rank for each line: there are stations, no more than a set of 16 words has bits; every end is a station,
-- and there are few lines, each with its rank.
pub record Scannable (n : ℕ) (lines ranks : List ℕ) : Type 0 where
  pub some : 0 < n
  pub most : n ≤ 1024
  pub one_in : (p : ℕ) → p < length ranks → end_one lines p < n
  pub two_in : (p : ℕ) → p < length ranks → end_two lines p < n
  pub few : length lines ≤ 16384
  pub pairs : length lines ≡ 2 * length ranks
