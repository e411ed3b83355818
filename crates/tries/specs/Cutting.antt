-- How the search speaks of the tables of its passes: which station, with those taken away already, parts two others.
-- Only the helpers speak of it. Assumes nothing.
use Rattle.std.specs.Prelude.{ℕ, ◌-◌, ◌<◌, ◌≤◌, ◌≡◌, Bool, false, List, [], ◌∷◌, length, get_or, leb}
use Rattle.laws.specs.Fold.{pick, first_from}
use Rattle.parting.specs.Standing.{Standing, Standing.stands, is_weak, without}
use Rattle.tries.specs.Tries.{◌or_else◌, without_ones, without_twos}

-- The first station from v on that a table marks; as many as there are entries where it marks none.
unfoldable pub first_cut : List Bool → ℕ → ℕ
first_cut cut v = first_from (λ w. get_or cut w false) (λ w. w) (length cut) v (length cut - v)

-- A set of one station; of a first one and a second.
abbrev pub single : ℕ → List ℕ
single w = w ∷ []

abbrev pub pair : ℕ → ℕ → List ℕ
pair v w = v ∷ (w ∷ [])

-- The table says of each station from v on whether its set parts two others.
pub record SaysWeak (n : ℕ) (lines : List ℕ) (set_of : ℕ → List ℕ) (v : ℕ) (cut : List Bool) : Type 0 where
  pub says : (w : ℕ) → v ≤ w → w < n → get_or cut w false ≡ is_weak (without n lines (set_of w))

-- One station is taken away, then, at level 3, two.
unfoldable pub without_stations : ℕ → ℕ → List ℕ → Standing
without_stations n k lines = without_ones n lines or_else pick (leb 3 k) (without_twos n lines) stands
