-- A buffer that is filled from the front, as the loops that put lines into it speak of it.
-- Assumes nothing.
use Rattle.std.specs.Prelude.{ℕ, ◌≡◌, List, ◌++◌, length, take, drop}

-- The first `at` places of `room` hold `front`, and the others what they held in `before`.
pub record Filled (front before : List ℕ) (at : ℕ) (room : List ℕ) : Type 0 where
  pub size : length front ≡ at
  pub is : room ≡ front ++ drop at before

-- The first `at` places of `room` hold `front`, whatever stands in the others.
pub record Fronted (front : List ℕ) (at : ℕ) (room : List ℕ) : Type 0 where
  pub size : length front ≡ at
  pub is : take at room ≡ front
