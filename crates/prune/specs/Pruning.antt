-- Pruning: what it answers. What the rounds make, and what is so left in the lent buffers, is the scan rule's.
-- Assumes nothing.
use Rattle.std.specs.Prelude.{ℕ, List}
use Rattle.kinds.specs.Answers.{Answer, Answer.given, ◌and_then◌}
use Rattle.kept.specs.Kept.{kept_count}
use Rattle.limits.specs.Limits.{plan_short}
use Rattle.request.specs.Judging.{request_judged}
use Rattle.rule.specs.Rounds.{pruned}

-- What pruning answers, given the lengths of the two buffers: the first refusal, or the count of kept lines.
unfoldable pub prune_answer : ℕ → ℕ → List ℕ → List ℕ → (ranks orders : ℕ) → Answer ℕ
prune_answer n k lines starts ranks orders =
    request_judged n k lines starts (plan_short n k lines ranks orders) and_then given (kept_count (pruned n k lines starts).ranks)
