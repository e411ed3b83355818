-- What an owner asks for: a network, a level k and a starting station for each round; and its refusals in order.
-- Assumes nothing.
use Rattle.std.specs.Prelude.{ℕ, ◌+◌, Bool, not, List, length, get_or, leb, eqb}
use Rattle.laws.specs.Fold.{first_from}
use Rattle.kinds.specs.Answers.{Answer, taken, refuse_if, ◌and_then◌, is_refused}
use Rattle.limits.specs.Limits.{stations_judged, length_judged, level_judged, room_judged}
use Rattle.network.specs.Judging.{lines_judged}

-- 4: the number of starting stations is not k.
unfoldable pub start_count_judged : ℕ → List ℕ → Answer (Unit {0})
start_count_judged k starts = refuse_if (not (eqb (length starts) k)) 4 0 0

-- 9: the starting station at an index is n or more; the place is its round, counted from 1.
unfoldable pub start_judged : ℕ → List ℕ → ℕ → Answer (Unit {0})
start_judged n starts index = refuse_if (leb n (get_or starts index 0)) 9 (index + 1) 0

-- Each starting station, round by round.
unfoldable pub starts_judged : ℕ → List ℕ → Answer (Unit {0})
starts_judged n starts = first_from is_refused (start_judged n starts) taken 0 (length starts)

-- The sizes: 1, 2, 3, 4, 5, in this order. `short` says whether a lent buffer is shorter than needed.
unfoldable pub sizes_judged : ℕ → ℕ → List ℕ → List ℕ → Bool → Answer (Unit {0})
sizes_judged n k lines starts short =
    stations_judged n
    and_then length_judged 0 lines
    and_then level_judged k
    and_then start_count_judged k starts
    and_then room_judged short

-- Pruning and writing try 1, 2, 3, 4, 5; then each line in list order for 6, 7, 8; then 9.
unfoldable pub request_judged : ℕ → ℕ → List ℕ → List ℕ → Bool → Answer (Unit {0})
request_judged n k lines starts short =
    sizes_judged n k lines starts short
    and_then lines_judged 0 n lines
    and_then starts_judged n starts
