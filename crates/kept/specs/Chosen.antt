-- Which lines a closure chooses.
-- Assumes nothing.
use Rattle.std.specs.Prelude.{ℕ, ◌<◌, ◌≡◌, Bool}
use Rattle.kinds.specs.declared.Place.{Place}

-- What is answered of each place below the count is what the test says of its number.
pub record Chooses (answers : Place → Bool → Type 0) (test : ℕ → Bool) (count : ℕ) : Type 0 where
  pub says : (place : Place) (answer : Bool) → place.0 < count → answers place answer → answer ≡ test place.0
