-- What is found where the stations of a set are taken away: nothing, or the two stations that it parts.
-- Assumes nothing.
use Rattle.std.specs.Prelude.{ℕ, Bool, true, false, not, ◌&&◌, List, ltb}
use Rattle.laws.specs.Fold.{pick, lowest}
use Rattle.pieces.specs.Away.{is_away}
use Rattle.pieces.specs.Pieces.{one_piece}

-- The network stands, or a weak spot parts station a from station b.
pub data Standing : Type 0 where
  stands : Standing
  weak : (spot : List ℕ) (a b : ℕ) → Standing

abbrev pub is_weak : Standing → Bool
is_weak stands = false
is_weak (weak spot a b) = true

-- The lowest remaining station; n where none remains.
unfoldable pub lowest_remaining : ℕ → (ℕ → Bool) → ℕ
lowest_remaining n away = lowest (λ v. not (away v)) n n

-- The lowest remaining station that is not joined to a; n where there is none.
unfoldable pub lowest_apart : ℕ → List ℕ → (ℕ → Bool) → ℕ → ℕ
lowest_apart n lines away a = lowest (λ v. not (away v) && not (one_piece n lines away a v)) n n

-- A set of stations is taken away: it is weak if the lowest remaining station has one that is not joined to it.
unfoldable pub without : ℕ → List ℕ → List ℕ → Standing
without n lines spot =
    let a = lowest_remaining n (is_away spot) in
    let b = lowest_apart n lines (is_away spot) a in
    pick (ltb b n) (weak spot a b) stands
