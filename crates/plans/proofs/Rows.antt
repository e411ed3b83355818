-- THEOREM. What the check answers follows its rows.
-- Assumes nothing.
use Prim.Native.Nat.{ℕ}
use mathlib.Core.List.{List}
use lib.ListN.{length}
use Rattle.kinds.specs.Rows.{Follows}
use Rattle.kinds.proofs.Rows.{then_follows, given_follows}
use Rattle.limits.proofs.Rows.{stations_follows, length_follows, level_follows, room_follows, plan_short_exactly}
use Rattle.network.proofs.Rows.{lines_follows}
use Rattle.plans.specs.Checking.{plan_verdict, plan_judged, check_answer}
use Rattle.plans.specs.Rows.{check_rows}

pub check_follows : (n k : ℕ) (lines ranks orders : List ℕ) → Follows (check_answer n k lines ranks orders) (check_rows n k lines ranks orders)
unfolding check_answer plan_judged
check_follows n k lines ranks orders =
    given_follows (plan_verdict n k lines ranks orders)
    (then_follows (stations_follows n)
    (then_follows (length_follows 0 lines)
    (then_follows (level_follows k) (then_follows (room_follows (plan_short_exactly n k lines (length ranks) (length orders))) (lines_follows 0 n lines)))))
