-- Pruning from station 0 in every round, as the search does. Only its helpers speak of it. Assumes nothing.
use Rattle.std.specs.Prelude.{ℕ, List, take, replicate}
use Rattle.rule.specs.Rounds.{pruned}

-- Station 0 for each of at most three rounds.
abbrev pub from_zero : ℕ → List ℕ
from_zero k = take k (replicate 3 0)

-- The ranks that it makes.
abbrev pub ranks_made : ℕ → ℕ → List ℕ → List ℕ
ranks_made n k lines = (pruned n k lines (from_zero k)).ranks
