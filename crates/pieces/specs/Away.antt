-- The stations that are taken away: as a list, and as marks in a buffer.
-- Assumes nothing.
use Rattle.std.specs.Prelude.{ℕ, ◌+◌, ◌<◌, ◌≡◌, Bool, false, List, length, get_or, eqb}
use Rattle.laws.specs.Fold.{any_from}

-- Every number is below n, and above the one before it.
pub record Rising (n : ℕ) (away : List ℕ) : Type 0 where
  pub below : (j : ℕ) → j < length away → get_or away j 0 < n
  pub above : (j : ℕ) → j + 1 < length away → get_or away j 0 < get_or away (j + 1) 0

-- Whether station v is in the taken-away list.
unfoldable pub is_away : List ℕ → ℕ → Bool
is_away away v = any_from (λ j. eqb (get_or away j 0) v) 0 (length away)

-- Whether station v is marked as taken away.
abbrev pub is_gone : List Bool → ℕ → Bool
is_gone gone v = get_or gone v false

-- No station is marked.
pub record Unmarked (gone : List Bool) : Type 0 where
  pub none : (v : ℕ) → v < length gone → is_gone gone v ≡ false

-- The marks say of each station whether it is in the taken-away list.
pub record Gone (away : List ℕ) (gone : List Bool) : Type 0 where
  pub says : (v : ℕ) → v < length gone → is_gone gone v ≡ is_away away v
