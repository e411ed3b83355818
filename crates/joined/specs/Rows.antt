-- The rows of the joined question: 1, 2, lines, 10, 11.
-- Assumes nothing.
use Rattle.std.specs.Prelude.{ℕ, ◌-◌, ◌<◌, ◌≤◌, ◌≡◌, true, ◌⊎◌, List, length, get_or}
use Rattle.kinds.specs.Rows.{Rows, Row, ◌then_try◌, EachOf}
use Rattle.network.specs.Rows.{list_rows}
use Rattle.pieces.specs.Away.{is_away}

-- 10: the taken-away list is not strictly rising, or has a number n or more; place its first such index.
abbrev pub away_rows : ℕ → List ℕ → Rows
away_rows n away = EachOf (length away) (λ j. Row ((n ≤ get_or away j 0) ⊎ ((0 < j) × (get_or away j 0 ≤ get_or away (j - 1) 0))) 10 j 0)

-- 11: an asked station is n or more, or taken away; `which` is 0 for the first and 1 for the second.
abbrev pub asked_row : ℕ → List ℕ → (which v : ℕ) → Rows
asked_row n away which v = Row ((n ≤ v) ⊎ (is_away away v ≡ true)) 11 which 0

abbrev pub joined_rows : ℕ → (lines away : List ℕ) → (a b : ℕ) → Rows
joined_rows n lines away a b = list_rows 0 n lines then_try away_rows n away then_try asked_row n away 0 a then_try asked_row n away 1 b
