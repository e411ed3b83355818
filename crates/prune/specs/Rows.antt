-- The rows of pruning: 1, 2, 3, 4, 5; then each line in list order for 6, 7, 8; then 9.
-- Assumes nothing.
use Rattle.std.specs.Prelude.{ℕ, List}
use Rattle.kinds.specs.Rows.{Rows}
use Rattle.limits.specs.Rows.{PlanShort}
use Rattle.request.specs.Rows.{request_rows}

-- Given the lengths of the two buffers.
abbrev pub prune_rows : ℕ → ℕ → (lines starts : List ℕ) → (ranks orders : ℕ) → Rows
prune_rows n k lines starts ranks orders = request_rows n k lines starts (PlanShort n k lines ranks orders)
