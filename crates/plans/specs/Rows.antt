-- The rows of the check: 1, 2, 3, 5, then lines.
-- Assumes nothing.
use Rattle.std.specs.Prelude.{ℕ, List, length}
use Rattle.kinds.specs.Rows.{Rows, ◌then_try◌}
use Rattle.limits.specs.Rows.{stations_row, length_row, level_row, room_row, PlanShort}
use Rattle.network.specs.Rows.{lines_rows}

abbrev pub check_rows : ℕ → ℕ → (lines ranks orders : List ℕ) → Rows
check_rows n k lines ranks orders =
    stations_row n then_try length_row 0 lines then_try level_row k then_try room_row (PlanShort n k lines (length ranks) (length orders)) then_try lines_rows 0 n lines
