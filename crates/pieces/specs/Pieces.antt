-- The pieces of what remains, each named by its lowest station.
-- Assumes nothing.
use Rattle.std.specs.Prelude.{ℕ, ◌/◌, max, min, Bool, ◌||◌, List, [], ◌∷◌, ◌++◌, map, length, get_or, eqb}
use Rattle.laws.specs.Fold.{pick, up_to}
use Rattle.network.specs.Lines.{end_one, end_two}

-- Before any line, each station is a piece of its own.
unfoldable pub alone : ℕ → List ℕ
alone n = up_to (λ v pieces. pieces ++ (v ∷ [])) [] n

-- Two pieces become one, which is named by the lower name.
unfoldable pub merge : ℕ → ℕ → List ℕ → List ℕ
merge x y pieces = map (λ z. pick (eqb z (max x y)) (min x y) z) pieces

-- The line at place p makes the pieces of its ends one, if both ends remain.
unfoldable pub join_line : List ℕ → (ℕ → Bool) → ℕ → List ℕ → List ℕ
join_line lines away p pieces =
    pick (away (end_one lines p) || away (end_two lines p)) pieces
    (merge (get_or pieces (end_one lines p) 0) (get_or pieces (end_two lines p) 0) pieces)

-- The pieces of all lines: what stands at v is the lowest station of v's piece.
unfoldable pub pieces_of : ℕ → List ℕ → (ℕ → Bool) → List ℕ
pieces_of n lines away = up_to (join_line lines away) (alone n) (length lines / 2)

-- Whether a and b are of one piece.
unfoldable pub one_piece : ℕ → List ℕ → (ℕ → Bool) → ℕ → ℕ → Bool
one_piece n lines away a b = eqb (get_or (pieces_of n lines away) a 0) (get_or (pieces_of n lines away) b 0)
