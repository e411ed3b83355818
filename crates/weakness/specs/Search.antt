-- Whether a network stands at a level, and its weak spot otherwise, over the whole list; and the refusals.
-- Assumes nothing.
use Rattle.std.specs.Prelude.{ℕ, List}
use Rattle.kinds.specs.Answers.{Answer, Answer.given, ◌and_then◌}
use Rattle.limits.specs.Limits.{stations_judged, length_judged, weak_level_judged}
use Rattle.network.specs.Judging.{lines_judged}
use Rattle.parting.specs.Standing.{Standing}
use Rattle.tries.specs.Tries.{weak_spot}

-- The refusals: 1, 2, 12, lines.
unfoldable pub weak_judged : ℕ → ℕ → List ℕ → Answer (Unit {0})
weak_judged n k lines =
    stations_judged n
    and_then length_judged 0 lines
    and_then weak_level_judged k
    and_then lines_judged 0 n lines

-- What the search for a weak spot answers.
unfoldable pub weak_answer : ℕ → ℕ → List ℕ → Answer Standing
weak_answer n k lines = weak_judged n k lines and_then given (weak_spot n k lines)
