-- What the rounds' helpers ask of their arguments: a level from 1 to 16, and a starting station for each round.
-- Only the helpers speak of it. Assumes nothing.
use Rattle.std.specs.Prelude.{ℕ, ◌<◌, ◌≤◌, ◌≡◌, List, length, get_or}

pub record InOrder (n k : ℕ) (starts : List ℕ) : Type 0 where
  pub some : 1 ≤ k
  pub most : k ≤ 16
  pub count : length starts ≡ k
  pub below : (i : ℕ) → i < k → get_or starts i 0 < n
