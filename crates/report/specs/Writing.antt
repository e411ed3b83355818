-- Writing at a position of a text: what stood there is replaced, and the rest is untouched.
-- Assumes nothing.
use Rattle.std.specs.Prelude.{ℕ, ◌+◌, ◌≤◌, ◌≡◌, List, ◌++◌, length, take, drop}

-- `after` is `before` with `part` at a position, and `next` is the position after it.
pub record Puts (before : List ℕ) (at : ℕ) (part after : List ℕ) (next : ℕ) : Type 0 where
  pub text : after ≡ (take at before ++ part) ++ drop next before
  pub ends : next ≡ at + length part
  pub fits : next ≤ length before
