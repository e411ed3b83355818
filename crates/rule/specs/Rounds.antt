-- The rounds of the scan rule: k of them, one after the other, each from its own starting station.
-- Assumes nothing.
use Rattle.std.specs.Prelude.{ℕ, ◌+◌, ◌/◌, List, [], ◌++◌, length, get_or, replicate}
use Rattle.laws.specs.Fold.{up_to}
use Rattle.rule.specs.Rule.{one_round}

-- What the rounds make: the lines' ranks, and the rounds' orders, n places to a round.
pub record Rounds : Type 0 where
  pub ranks : List ℕ
  pub orders : List ℕ

abbrev pub rounds : List ℕ → List ℕ → Rounds
rounds ranks orders = record { ranks = ranks; orders = orders }

-- The round after i others, which is round i + 1: its order fills the n places that begin at i times n.
unfoldable pub next_round : ℕ → List ℕ → List ℕ → ℕ → Rounds → Rounds
next_round n lines starts i s =
    let round = one_round n lines (i + 1) (get_or starts i 0) s.ranks in
    rounds round.ranks (s.orders ++ round.order)

-- The first k rounds, from ranks.
unfoldable pub all_rounds : ℕ → ℕ → List ℕ → List ℕ → List ℕ → Rounds
all_rounds n k lines starts ranks = up_to (next_round n lines starts) (rounds ranks []) k

-- The ranks and the orders of a network pruned at level k: every line is in play at first.
unfoldable pub pruned : ℕ → ℕ → List ℕ → List ℕ → Rounds
pruned n k lines starts = all_rounds n k lines starts (replicate (length lines / 2) 0)
