-- The rows of a line list: 1, 2; then each line in list order for 6, 7, 8.
-- Assumes nothing.
use Rattle.std.specs.Prelude.{ℕ, ◌/◌, ◌<◌, ◌≤◌, ◌≡◌, ◌⊎◌, List, length}
use Rattle.kinds.specs.Rows.{Rows, Row, ◌then_try◌, EachOf}
use Rattle.limits.specs.Rows.{stations_row, length_row}
use Rattle.network.specs.Lines.{end_one, end_two, network, Joins}

-- The same two ends, either way round, stood before place p.
abbrev pub StoodEarlier : ℕ → List ℕ → ℕ → Type 0
StoodEarlier n lines p = (q : ℕ) × (q < p) × Joins (network n lines) q (end_one lines p) (end_two lines p)

-- The line at place p: 6, an end is n or more; 7, the ends are equal; 8, the same two ends stood earlier.
abbrev pub line_rows : ℕ → ℕ → List ℕ → ℕ → Rows
line_rows list n lines p =
    Row ((n ≤ end_one lines p) ⊎ (n ≤ end_two lines p)) 6 p list
    then_try Row (end_one lines p ≡ end_two lines p) 7 p list
    then_try Row (StoodEarlier n lines p) 8 p list

-- Each line in list order.
abbrev pub lines_rows : ℕ → ℕ → List ℕ → Rows
lines_rows list n lines = EachOf (length lines / 2) (line_rows list n lines)

-- 1, 2, then the lines.
abbrev pub list_rows : ℕ → ℕ → List ℕ → Rows
list_rows list n lines = stations_row n then_try length_row list lines then_try lines_rows list n lines
