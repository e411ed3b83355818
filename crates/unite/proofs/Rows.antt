-- THEOREM. What uniting answers follows its rows.
-- Assumes nothing.
use Prim.Native.Nat.{ℕ, ◌/◌}
use mathlib.Core.List.{List}
use lib.ListN.{length}
use Rattle.laws.proofs.Truth.{ltb_exactly}
use Rattle.kinds.specs.Rows.{Follows}
use Rattle.kinds.proofs.Rows.{row_follows, then_follows, given_follows}
use Rattle.limits.proofs.Rows.{stations_follows, length_follows, room_follows}
use Rattle.network.proofs.Rows.{lines_follows}
use Rattle.unite.specs.Union.{united, lists_judged, union_judged, union_short, size_answer, union_answer}
use Rattle.unite.specs.Rows.{lists_rows, size_rows, union_rows}

-- The two lists, and the size of their union.
lists_follows : (n : ℕ) (first second : List ℕ) → Follows (lists_judged n first second) (lists_rows n first second)
unfolding lists_judged
lists_follows n first second =
    then_follows (stations_follows n)
    (then_follows (length_follows 1 first) (then_follows (length_follows 2 second) (then_follows (lines_follows 1 n first) (lines_follows 2 n second))))

size_follows : (first second : List ℕ) (room : ℕ) → Follows (size_answer first second room) (size_rows first second room)
unfolding size_answer union_judged union_short
size_follows first second room =
    let size = length (united first second) in
    then_follows (row_follows (ltb_exactly 16384 size)) (given_follows (size / 2) (room_follows (ltb_exactly room size)))

pub union_follows : (n : ℕ) (first second : List ℕ) (room : ℕ) → Follows (union_answer n first second room) (union_rows n first second room)
unfolding union_answer
union_follows n first second room = then_follows (lists_follows n first second) (size_follows first second room)
