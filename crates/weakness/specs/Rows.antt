-- The rows of the search for a weak spot: 1, 2, 12, lines.
-- Assumes nothing.
use Rattle.std.specs.Prelude.{ℕ, List}
use Rattle.kinds.specs.Rows.{Rows, ◌then_try◌}
use Rattle.limits.specs.Rows.{stations_row, length_row, weak_level_row}
use Rattle.network.specs.Rows.{lines_rows}

abbrev pub weak_rows : ℕ → ℕ → List ℕ → Rows
weak_rows n k lines = stations_row n then_try length_row 0 lines then_try weak_level_row k then_try lines_rows 0 n lines
