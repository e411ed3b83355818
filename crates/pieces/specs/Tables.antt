-- How the pieces are found: a table whose entries lead each station down to the lowest of its piece.
-- Only the helpers that find the pieces speak of it. Assumes nothing.
use Rattle.std.specs.Prelude.{ℕ, ◌/◌, ◌<◌, ◌≤◌, ◌≡◌, Bool, List, length, get_or}
use Rattle.network.specs.Lines.{end_one, end_two}

-- The table leads each station, through stations of its piece and never up, to the one that names the piece.
pub record Leads (names table : List ℕ) : Type 0 where
  pub size : length table ≡ length names
  pub down : (v : ℕ) → v < length table → get_or table v 0 ≤ v
  pub same : (v : ℕ) → v < length table → get_or names (get_or table v 0) 0 ≡ get_or names v 0
  pub last : (v : ℕ) → v < length table → get_or table v 0 ≡ v → get_or names v 0 ≡ v

-- The table leads to some names.
pub record Leading (table : List ℕ) : Type 0 where
  pub names : List ℕ
  pub leads : Leads names table

-- What the helpers ask of their arguments: few stations, each with its mark, and few lines, whose ends are stations.
pub record Laid (lines : List ℕ) (gone : List Bool) (table : List ℕ) : Type 0 where
  pub one_in : (p : ℕ) → p < length lines / 2 → end_one lines p < length table
  pub two_in : (p : ℕ) → p < length lines / 2 → end_two lines p < length table
  pub few : length lines ≤ 16384
  pub most : length table ≤ 1024
  pub marks : length gone ≡ length table
