-- The judges of sizes follow their rows of the table.
-- Assumes nothing.
use Prim.Native.Nat.{ℕ, ◌*◌, ◌/◌, ◌%◌}
use mathlib.Core.Path.{◌≡◌}
use mathlib.Core.Bool.{Bool, true}
use mathlib.Core.Logic.{◌↔◌}
use mathlib.Core.List.{List}
use lib.ListN.{length}
use Rattle.laws.proofs.Truth.{or_either, ltb_exactly, eqb_exactly}
use Rattle.kinds.specs.Rows.{Follows}
use Rattle.kinds.proofs.Rows.{row_follows}
use Rattle.limits.specs.Limits.{stations_judged, length_judged, level_judged, room_judged, plan_short, weak_level_judged}
use Rattle.limits.specs.Rows.{stations_row, length_row, level_row, room_row, PlanShort, weak_level_row}

-- 1, 2, 3, 5 and 12 are each given exactly where their row holds.
pub stations_follows : (n : ℕ) → Follows (stations_judged n) (stations_row n)
unfolding stations_judged
stations_follows n = row_follows (or_either (ltb_exactly n 1) (ltb_exactly 1024 n))

pub length_follows : (list : ℕ) (lines : List ℕ) → Follows (length_judged list lines) (length_row list lines)
unfolding length_judged
length_follows list lines = row_follows (or_either (eqb_exactly (length lines % 2) 1) (ltb_exactly 16384 (length lines)))

pub level_follows : (k : ℕ) → Follows (level_judged k) (level_row k)
unfolding level_judged
level_follows k = row_follows (or_either (ltb_exactly k 1) (ltb_exactly 16 k))

pub room_follows : {short : Bool} {Short : Type 0} → (short ≡ true) ↔ Short → Follows (room_judged short) (room_row Short)
unfolding room_judged
room_follows tells = row_follows tells

pub weak_level_follows : (k : ℕ) → Follows (weak_level_judged k) (weak_level_row k)
unfolding weak_level_judged
weak_level_follows k = row_follows (or_either (ltb_exactly k 1) (ltb_exactly 3 k))

-- The test of the room for a plan tells exactly that it is short.
pub plan_short_exactly : (n k : ℕ) (lines : List ℕ) (ranks orders : ℕ) → (plan_short n k lines ranks orders ≡ true) ↔ PlanShort n k lines ranks orders
unfolding plan_short
plan_short_exactly n k lines ranks orders = or_either (ltb_exactly ranks (length lines / 2)) (ltb_exactly orders (k * n))
