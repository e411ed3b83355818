-- The rows of uniting: 1; 2 for each list; lines of the first, then of the second; 13; 5.
-- Assumes nothing.
use Rattle.std.specs.Prelude.{ℕ, ◌<◌, List, length}
use Rattle.kinds.specs.Rows.{Rows, Row, ◌then_try◌}
use Rattle.limits.specs.Rows.{stations_row, length_row, room_row}
use Rattle.network.specs.Rows.{lines_rows}
use Rattle.unite.specs.Union.{united}

-- The two lists.
abbrev pub lists_rows : ℕ → (first second : List ℕ) → Rows
lists_rows n first second = stations_row n then_try length_row 1 first then_try length_row 2 second then_try lines_rows 1 n first then_try lines_rows 2 n second

-- 13: the union has over 8,192 lines. 5: "room needed is exactly the union".
abbrev pub size_rows : (first second : List ℕ) → (room : ℕ) → Rows
size_rows first second room = Row (16384 < length (united first second)) 13 0 0 then_try room_row (room < length (united first second))

abbrev pub union_rows : ℕ → (first second : List ℕ) → (room : ℕ) → Rows
union_rows n first second room = lists_rows n first second then_try size_rows first second room
