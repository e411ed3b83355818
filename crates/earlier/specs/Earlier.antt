-- Which lines of a list stood earlier: in a first list, or before them in their own.
-- Assumes nothing.
use Rattle.std.specs.Prelude.{ℕ, ◌/◌, Bool, ◌||◌, List, length}
use Rattle.network.specs.Lines.{end_one, end_two}
use Rattle.network.specs.Judging.{stood_before}

-- Whether the line of the second list at place p stood earlier: the same two ends, either way round.
unfoldable pub stood_earlier : List ℕ → List ℕ → ℕ → Bool
stood_earlier first second p =
    stood_before first (length first / 2) (end_one second p) (end_two second p)
    || stood_before second p (end_one second p) (end_two second p)
