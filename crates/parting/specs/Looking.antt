-- How a look speaks of its answer: what is parted where some stations are taken away.
-- Only the helpers speak of it. Assumes nothing.
use Rattle.std.specs.Prelude.{ℕ, ◌<◌, Bool, not, ◌&&◌, List, [], ◌∷◌, get_or, set, eqb}
use Rattle.pieces.specs.Away.{is_gone}

-- Every station of a list is below n.
abbrev pub Below : ℕ → List ℕ → Type 0
Below n [] = Unit {0}
Below n (v ∷ vs) = (v < n) × Below n vs

-- The marks, with those of a list's stations written.
abbrev pub marked : List ℕ → Bool → List Bool → List Bool
marked [] away gone = gone
marked (v ∷ vs) away gone = marked vs away (set gone v away)

-- By the marks and the table of pieces: station v remains, and is of another piece than a.
abbrev pub is_apart : List Bool → List ℕ → ℕ → ℕ → Bool
is_apart gone pieces a v = not (is_gone gone v) && not (eqb (get_or pieces a 0) (get_or pieces v 0))
