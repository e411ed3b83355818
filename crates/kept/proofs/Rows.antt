-- THEOREM. What copying answers follows its rows.
-- Assumes nothing.
use Prim.Native.Nat.{ℕ, ◌*◌, ◌/◌}
use mathlib.Core.List.{List}
use lib.ListN.{length}
use Rattle.laws.proofs.Truth.{or_either, ltb_exactly}
use Rattle.kinds.specs.Rows.{Follows}
use Rattle.kinds.proofs.Rows.{then_follows, given_follows}
use Rattle.limits.proofs.Rows.{length_follows, room_follows}
use Rattle.kept.specs.Kept.{kept_of, copy_answer}
use Rattle.kept.specs.Rows.{copy_rows}

pub copy_follows : (lines ranks : List ℕ) (room : ℕ) → Follows (copy_answer lines ranks room) (copy_rows lines ranks room)
unfolding copy_answer
copy_follows lines ranks room =
    then_follows (length_follows 0 lines)
    (given_follows (kept_of lines ranks) (room_follows (or_either (ltb_exactly (length ranks) (length lines / 2)) (ltb_exactly room (2 * kept_of lines ranks)))))
