-- Document 01's seven stations, and ranks of which both rounds are spanning forests, and yet not alike to the whole list.
-- Assumes nothing.
use Rattle.std.specs.Prelude.{ℕ, List, [], ◌∷◌}

abbrev pub seven : List ℕ
seven = 0 ∷ 1 ∷ 0 ∷ 2 ∷ 1 ∷ 2 ∷ 1 ∷ 3 ∷ 0 ∷ 3 ∷ 0 ∷ 4 ∷ 2 ∷ 4 ∷ 1 ∷ 5 ∷ 3 ∷ 5 ∷ 2 ∷ 6 ∷ 4 ∷ 6 ∷ []

abbrev pub seven_ranks : List ℕ
seven_ranks = 1 ∷ 1 ∷ 0 ∷ 2 ∷ 2 ∷ 2 ∷ 2 ∷ 1 ∷ 1 ∷ 1 ∷ 1 ∷ []
