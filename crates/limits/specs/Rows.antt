-- The rows that look at sizes alone: 1, 2, 3, 5 and 12.
-- Assumes nothing.
use Rattle.std.specs.Prelude.{ℕ, ◌*◌, ◌/◌, ◌%◌, ◌<◌, ◌≡◌, ◌⊎◌, List, length}
use Rattle.kinds.specs.Rows.{Rows, Row}

-- 1: n is not 1 to 1,024.
abbrev pub stations_row : ℕ → Rows
stations_row n = Row ((n < 1) ⊎ (1024 < n)) 1 0 0

-- 2: the line list has an odd length or over 16,384 numbers. `list` says which list it is.
abbrev pub length_row : ℕ → List ℕ → Rows
length_row list lines = Row ((length lines % 2 ≡ 1) ⊎ (16384 < length lines)) 2 0 list

-- 3: k is not 1 to 16.
abbrev pub level_row : ℕ → Rows
level_row k = Row ((k < 1) ⊎ (16 < k)) 3 0 0

-- 5: a lent buffer is shorter than needed.
abbrev pub room_row : Type 0 → Rows
room_row short = Row short 5 0 0

-- Room for a plan is short: fewer than m bytes for the ranks, or fewer than k times n numbers for the orders.
abbrev pub PlanShort : ℕ → ℕ → List ℕ → (ranks orders : ℕ) → Type 0
PlanShort n k lines ranks orders = (ranks < length lines / 2) ⊎ (orders < k * n)

-- 12: the weak-spot level is not 1 to 3.
abbrev pub weak_level_row : ℕ → Rows
weak_level_row k = Row ((k < 1) ⊎ (3 < k)) 12 0 0
