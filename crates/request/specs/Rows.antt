-- The rows of a request: 1, 2, 3, 4, 5; then each line in list order for 6, 7, 8; then 9.
-- Assumes nothing.
use Rattle.std.specs.Prelude.{ℕ, ◌+◌, ◌≤◌, ◌≢◌, List, length, get_or}
use Rattle.kinds.specs.Rows.{Rows, Row, ◌then_try◌, EachOf}
use Rattle.limits.specs.Rows.{stations_row, length_row, level_row, room_row}
use Rattle.network.specs.Rows.{lines_rows}

-- 4: the number of starting stations is not k.
abbrev pub start_count_row : ℕ → List ℕ → Rows
start_count_row k starts = Row (length starts ≢ k) 4 0 0

-- 9: a starting station is n or more, place its round.
abbrev pub starts_rows : ℕ → List ℕ → Rows
starts_rows n starts = EachOf (length starts) (λ index. Row (n ≤ get_or starts index 0) 9 (index + 1) 0)

-- The sizes, with what it means that a lent buffer is shorter than needed.
abbrev pub sizes_rows : ℕ → ℕ → (lines starts : List ℕ) → Type 0 → Rows
sizes_rows n k lines starts short = stations_row n then_try length_row 0 lines then_try level_row k then_try start_count_row k starts then_try room_row short

abbrev pub request_rows : ℕ → ℕ → (lines starts : List ℕ) → Type 0 → Rows
request_rows n k lines starts short = sizes_rows n k lines starts short then_try lines_rows 0 n lines then_try starts_rows n starts
