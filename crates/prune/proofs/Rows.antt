-- THEOREM. What pruning answers follows its rows.
-- Assumes nothing.
use Prim.Native.Nat.{ℕ}
use mathlib.Core.List.{List}
use Rattle.kinds.specs.Rows.{Follows}
use Rattle.kinds.proofs.Rows.{given_follows}
use Rattle.kept.specs.Kept.{kept_count}
use Rattle.limits.proofs.Rows.{plan_short_exactly}
use Rattle.request.proofs.Rows.{request_follows}
use Rattle.prune.specs.Pruning.{prune_answer}
use Rattle.rule.specs.Rounds.{pruned}
use Rattle.prune.specs.Rows.{prune_rows}

pub prune_follows : (n k : ℕ) (lines starts : List ℕ) (ranks orders : ℕ) → Follows (prune_answer n k lines starts ranks orders) (prune_rows n k lines starts ranks orders)
unfolding prune_answer
prune_follows n k lines starts ranks orders =
    given_follows (kept_count (pruned n k lines starts).ranks) (request_follows n k lines starts (plan_short_exactly n k lines ranks orders))
