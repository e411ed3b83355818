-- The refusals that look at sizes alone, by their rows of the table: 1, 2, 3, 5 and 12.
-- Assumes nothing.
use Rattle.std.specs.Prelude.{ℕ, ◌*◌, ◌/◌, ◌%◌, Bool, ◌||◌, List, length, ltb, eqb}
use Rattle.kinds.specs.Answers.{Answer, refuse_if}

-- 1: n is not 1 to 1,024.
unfoldable pub stations_judged : ℕ → Answer (Unit {0})
stations_judged n = refuse_if (ltb n 1 || ltb 1024 n) 1 0 0

-- 2: the line list has an odd length or over 16,384 numbers. `list` says which list it is, by the document's number.
unfoldable pub length_judged : ℕ → List ℕ → Answer (Unit {0})
length_judged list lines = refuse_if (eqb (length lines % 2) 1 || ltb 16384 (length lines)) 2 0 list

-- 3: k is not 1 to 16.
unfoldable pub level_judged : ℕ → Answer (Unit {0})
level_judged k = refuse_if (ltb k 1 || ltb 16 k) 3 0 0

-- 5: a lent buffer is shorter than needed.
unfoldable pub room_judged : Bool → Answer (Unit {0})
room_judged short = refuse_if short 5 0 0

-- Whether the room for a plan is too short: m bytes for the ranks, k times n numbers for the orders.
unfoldable pub plan_short : ℕ → ℕ → List ℕ → (ranks orders : ℕ) → Bool
plan_short n k lines ranks orders = ltb ranks (length lines / 2) || ltb orders (k * n)

-- 12: the weak-spot level is not 1 to 3.
unfoldable pub weak_level_judged : ℕ → Answer (Unit {0})
weak_level_judged k = refuse_if (ltb k 1 || ltb 3 k) 12 0 0
