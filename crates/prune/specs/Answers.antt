-- What pruning's contract allows: its answer in the document's numbers, and what its buffers hold.
-- Assumes nothing.
use Rattle.std.specs.Prelude.{ℕ, ◌≡◌, List, length, Result}
use Rattle.kinds.specs.Answers.{answer_of}
use Rattle.kinds.specs.declared.Refusal.{Refusal}
use Rattle.kept.specs.Kept.{after}
use Rattle.prune.specs.Pruning.{prune_answer}
use Rattle.rule.specs.Rounds.{pruned}

-- The answer to a network, a level, starts and two buffers, and what the buffers hold afterwards.
pub record PruneAllows (n k : ℕ) (lines starts ranks orders : List ℕ) (said : Result ℕ Refusal) (ranks' orders' : List ℕ) : Type 0 where
  pub answer : answer_of said ≡ prune_answer n k lines starts (length ranks) (length orders)
  pub new_ranks : ranks' ≡ after (answer_of said) (pruned n k lines starts).ranks ranks
  pub new_orders : orders' ≡ after (answer_of said) (pruned n k lines starts).orders orders
