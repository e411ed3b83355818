-- Examples of what weak writes, to the byte: of a spot of two stations, of an empty one, and of none.
-- Assumes nothing.
use Prim.Native.Nat.{ℕ}
use mathlib.Core.Path.{◌≡◌, refl}
use mathlib.Core.List.{List, [], ◌∷◌, ◌++◌}
use Rattle.parting.specs.Standing.{Standing.stands, Standing.weak}
use Rattle.report.specs.Text.{digits, decimal}
use Rattle.standing.specs.Text.{weak_header_text, spot_text, weak_row_text, weak_text}

-- stations 4 level 2 lines 6
abbrev asked : List ℕ
asked = 115 ∷ 116 ∷ 97 ∷ 116 ∷ 105 ∷ 111 ∷ 110 ∷ 115 ∷ 32 ∷ 52 ∷ 32 ∷ 108 ∷ 101 ∷ 118 ∷ 101 ∷ 108 ∷ 32 ∷ 50 ∷ 32 ∷ 108 ∷ 105 ∷ 110 ∷ 101 ∷ 115 ∷ 32 ∷ 54 ∷ 10 ∷ []

-- weak 0 2 parts 1 from 3
pub weak_example : weak_text 4 2 6 (weak (0 ∷ 2 ∷ []) 1 3) ≡ asked ++ (119 ∷ 101 ∷ 97 ∷ 107 ∷ 32 ∷ 48 ∷ 32 ∷ 50 ∷ 32 ∷ 112 ∷ 97 ∷ 114 ∷ 116 ∷ 115 ∷ 32 ∷ 49 ∷ 32 ∷ 102 ∷ 114 ∷ 111 ∷ 109 ∷ 32 ∷ 51 ∷ 10 ∷ [])
unfolding weak_text weak_header_text weak_row_text spot_text decimal digits
weak_example = refl

-- weak parts 0 from 1
pub empty_example : weak_text 4 2 6 (weak [] 0 1) ≡ asked ++ (119 ∷ 101 ∷ 97 ∷ 107 ∷ 32 ∷ 112 ∷ 97 ∷ 114 ∷ 116 ∷ 115 ∷ 32 ∷ 48 ∷ 32 ∷ 102 ∷ 114 ∷ 111 ∷ 109 ∷ 32 ∷ 49 ∷ 10 ∷ [])
unfolding weak_text weak_header_text weak_row_text spot_text decimal digits
empty_example = refl

-- stands
pub stands_example : weak_text 4 2 6 stands ≡ asked ++ (115 ∷ 116 ∷ 97 ∷ 110 ∷ 100 ∷ 115 ∷ 10 ∷ [])
unfolding weak_text weak_header_text decimal digits
stands_example = refl
