-- What the rounds' orders say: each round's own order, and the number that it gives a station.
-- Assumes nothing.
use Rattle.std.specs.Prelude.{ℕ, ◌*◌, List, get_or, take, drop, eqb}
use Rattle.laws.specs.Fold.{lowest}

-- The order of the round after i others, which is round i + 1: the n places that begin at i times n.
unfoldable pub order_of : ℕ → List ℕ → ℕ → List ℕ
order_of n orders i = take n (drop (i * n) orders)

-- The position of station v in the order; n where it has none.
unfoldable pub position_of : ℕ → List ℕ → ℕ → ℕ
position_of n order v = lowest (λ j. eqb (get_or order j 0) v) n n
