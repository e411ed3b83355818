-- Lists made of parts: parts one after the other, and a part put into a list.
-- Assumes nothing.
use Rattle.std.specs.Prelude.{ℕ, ◌+◌, List, [], ◌++◌, length, take, drop}
use Rattle.laws.specs.Fold.{up_to}

-- The lists f 0, f 1, .. f (count - 1), one after the other.
unfoldable pub gathered : (ℕ → List ℕ) → ℕ → List ℕ
gathered f count = up_to (λ index front. front ++ f index) [] count

-- A list with a part put in from an index on, the places before and after it untouched.
unfoldable pub placed : List ℕ → ℕ → List ℕ → List ℕ
placed list index part = take index list ++ (part ++ drop (index + length part) list)
