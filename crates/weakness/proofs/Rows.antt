-- THEOREM. What the search for a weak spot answers follows its rows.
-- Assumes nothing.
use Prim.Native.Nat.{ℕ}
use mathlib.Core.List.{List}
use Rattle.kinds.specs.Rows.{Follows}
use Rattle.kinds.proofs.Rows.{then_follows, given_follows}
use Rattle.limits.proofs.Rows.{stations_follows, length_follows, weak_level_follows}
use Rattle.network.proofs.Rows.{lines_follows}
use Rattle.tries.specs.Tries.{weak_spot}
use Rattle.weakness.specs.Search.{weak_judged, weak_answer}
use Rattle.weakness.specs.Rows.{weak_rows}

pub weak_follows : (n k : ℕ) (lines : List ℕ) → Follows (weak_answer n k lines) (weak_rows n k lines)
unfolding weak_answer weak_judged
weak_follows n k lines =
    given_follows (weak_spot n k lines)
    (then_follows (stations_follows n) (then_follows (length_follows 0 lines) (then_follows (weak_level_follows k) (lines_follows 0 n lines))))
