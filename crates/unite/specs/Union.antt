-- The union of two lists: the first list, then those lines of the second that the first lacks, in order and as written there.
-- Assumes nothing.
use Rattle.std.specs.Prelude.{ℕ, ◌/◌, Bool, List, [], ◌∷◌, ◌++◌, length, ltb}
use Rattle.laws.specs.Fold.{pick, up_to}
use Rattle.kinds.specs.Answers.{Answer, Answer.given, refuse_if, ◌and_then◌}
use Rattle.network.specs.Lines.{end_one, end_two}
use Rattle.limits.specs.Limits.{stations_judged, length_judged, room_judged}
use Rattle.network.specs.Judging.{stood_before, lines_judged}

-- The line of the second list at place p, after those that stand, if the first list lacks it.
unfoldable pub add_line : List ℕ → List ℕ → ℕ → List ℕ → List ℕ
add_line first second p union =
    pick (stood_before first (length first / 2) (end_one second p) (end_two second p)) union (union ++ (end_one second p ∷ (end_two second p ∷ [])))

unfoldable pub united : List ℕ → List ℕ → List ℕ
united first second = up_to (add_line first second) first (length second / 2)

-- The two lists: 1; 2 for each list; lines of the first, then of the second.
unfoldable pub lists_judged : ℕ → List ℕ → List ℕ → Answer (Unit {0})
lists_judged n first second =
    stations_judged n
    and_then length_judged 1 first
    and_then length_judged 2 second
    and_then lines_judged 1 n first
    and_then lines_judged 2 n second

-- 13: the union has over 8,192 lines.
unfoldable pub union_judged : List ℕ → List ℕ → Answer (Unit {0})
union_judged first second = refuse_if (ltb 16384 (length (united first second))) 13 0 0

-- Whether the room for numbers is too short for the union.
unfoldable pub union_short : List ℕ → List ℕ → ℕ → Bool
union_short first second room = ltb room (length (united first second))

-- What uniting answers where the lists are not refused, given the room for numbers: 13; 5; else how many lines.
unfoldable pub size_answer : List ℕ → List ℕ → ℕ → Answer ℕ
size_answer first second room =
    union_judged first second
    and_then room_judged (union_short first second room)
    and_then given (length (united first second) / 2)

-- What uniting answers: 1; 2 for each list; lines of the first, then of the second; 13; 5; else how many lines.
unfoldable pub union_answer : ℕ → List ℕ → List ℕ → ℕ → Answer ℕ
union_answer n first second room = lists_judged n first second and_then size_answer first second room
