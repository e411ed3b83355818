-- THEOREM. Pruning gives an answer just where the request is in order, and it is the count of the lines that it keeps.
-- Assumes nothing.
use Prim.Native.Nat.{ℕ}
use mathlib.Core.Path.{◌≡◌, ap}
use mathlib.Core.List.{List}
use Rattle.kinds.specs.Answers.{Answer.given, is_refused}
use Rattle.kinds.proofs.Answers.{then_given}
use Rattle.limits.specs.Limits.{plan_short}
use Rattle.request.specs.Judging.{request_judged}
use Rattle.request.specs.Requests.{Request}
use Rattle.request.proofs.Judging.{request_good, good_request}
use Rattle.kept.specs.Kept.{kept_count}
use Rattle.prune.specs.Pruning.{prune_answer}
use Rattle.rule.specs.Rounds.{pruned}

module _ (n k : ℕ) (lines starts : List ℕ) (ranks orders : ℕ) where
  pub given_request : {count : ℕ} → prune_answer n k lines starts ranks orders ≡ given count
      → Request n k lines starts (plan_short n k lines ranks orders) × (kept_count (pruned n k lines starts).ranks ≡ count)
  unfolding prune_answer
  given_request {count} e =
      let short = plan_short n k lines ranks orders in
      let (j, f) = then_given (request_judged n k lines starts short) (given (kept_count (pruned n k lines starts).ranks)) e in
      (request_good n k lines starts short (ap is_refused j), cc)

  pub request_given : Request n k lines starts (plan_short n k lines ranks orders) → prune_answer n k lines starts ranks orders ≡ given (kept_count (pruned n k lines starts).ranks)
  unfolding prune_answer
  request_given r = rw (good_request n k lines starts (plan_short n k lines ranks orders) r)
