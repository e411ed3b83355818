-- The rows of copying: 2, then 5.
-- Assumes nothing.
use Rattle.std.specs.Prelude.{ℕ, ◌*◌, ◌/◌, ◌<◌, ◌⊎◌, List, length}
use Rattle.kinds.specs.Rows.{Rows, ◌then_try◌}
use Rattle.limits.specs.Rows.{length_row, room_row}
use Rattle.kept.specs.Kept.{kept_of}

-- 2, then 5: ranks shorter than m, or room for fewer than twice the kept lines.
abbrev pub copy_rows : (lines ranks : List ℕ) → (room : ℕ) → Rows
copy_rows lines ranks room = length_row 0 lines then_try room_row ((length ranks < length lines / 2) ⊎ (room < 2 * kept_of lines ranks))
