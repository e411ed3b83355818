-- The starts that pruning takes, and what pruning keeps of one list and of two.
-- Assumes nothing.
use Rattle.std.specs.Prelude.{ℕ, ◌<◌, List, get_or}
use Rattle.kept.specs.Kept.{kept_lines}
use Rattle.rule.specs.Rounds.{pruned}
use Rattle.unite.specs.Union.{united}

-- The starting stations of k rounds are stations.
abbrev pub StartsIn : ℕ → ℕ → List ℕ → Type 0
StartsIn n k starts = (index : ℕ) → index < k → get_or starts index 0 < n

-- What is kept of a list that is pruned at k.
abbrev pub pruned_lines : ℕ → ℕ → List ℕ → List ℕ → List ℕ
pruned_lines n k lines starts = kept_lines lines (pruned n k lines starts).ranks

-- What is kept of two lists, each pruned at k from its own starts, united.
abbrev pub kept_union : ℕ → ℕ → (one two starts starts' : List ℕ) → List ℕ
kept_union n k one two starts starts' = united (pruned_lines n k one starts) (pruned_lines n k two starts')
