-- What the test of entries remembers: where each station stands in the round's order.
-- Only the helpers speak of it. Assumes nothing.
use Rattle.std.specs.Prelude.{ℕ, ◌<◌, ◌≡◌, List, length, get_or, eqb}
use Rattle.laws.specs.Fold.{lowest}

-- The stations of the first `count` entries have their positions in the table, and the others n.
pub record Placed (n : ℕ) (order : List ℕ) (count : ℕ) (positions : List ℕ) : Type 0 where
  pub size : length positions ≡ n
  pub at : (v : ℕ) → v < n → get_or positions v 0 ≡ lowest (λ j. eqb (get_or order j 0) v) count n
