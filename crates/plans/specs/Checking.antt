-- The check of forests, in the words of the document's table. A plan is the lines' ranks and the rounds' orders.
-- Assumes nothing.
use Rattle.std.specs.Prelude.{ℕ, ◌+◌, ◌/◌, Bool, not, ◌&&◌, ◌||◌, List, [], ◌∷◌, ◌++◌, length, get_or, ltb, leb, eqb}
use Rattle.laws.specs.Fold.{pick, up_to, first_from, any_from, lowest}
use Rattle.kinds.specs.Answers.{Answer, Answer.given, ◌and_then◌}
use Rattle.network.specs.Lines.{end_one, end_two}
use Rattle.limits.specs.Limits.{stations_judged, length_judged, level_judged, room_judged, plan_short}
use Rattle.network.specs.Judging.{same_ends, lines_judged}
use Rattle.plans.specs.Orders.{order_of, position_of}
use Rattle.plans.specs.Verdicts.{Kind.A, Kind.B, Kind.C, Kind.D, Kind.E, Verdict, Verdict.accepted, fault_if, ◌or_else◌, is_faulty}

-- In round i the lines in play are those of rank 0 or at least i.
unfoldable pub in_play : List ℕ → ℕ → ℕ → Bool
in_play ranks i p = eqb (get_or ranks p 0) 0 || leb i (get_or ranks p 0)

-- The lines of rank i.
unfoldable pub of_rank : List ℕ → ℕ → ℕ → Bool
of_rank ranks i p = eqb (get_or ranks p 0) i

-- Whether one of the first `count` lines is among those meant, and joins u and v.
unfoldable pub linked : List ℕ → ℕ → (ℕ → Bool) → ℕ → ℕ → Bool
linked lines count meant u v = any_from (λ p. meant p && same_ends u v (end_one lines p) (end_two lines p)) 0 count

-- A: rank above k, at a line (round 0).
unfoldable pub rank_verdict : ℕ → List ℕ → ℕ → Verdict
rank_verdict k ranks p = fault_if (ltb k (get_or ranks p 0)) 0 A p

-- A over all lines by place.
unfoldable pub ranks_verdict : ℕ → List ℕ → List ℕ → Verdict
ranks_verdict k lines ranks = first_from is_faulty (rank_verdict k ranks) accepted 0 (length lines / 2)

-- B: the entry at position j is n or more, or stood before in the round.
unfoldable pub entry_verdict : ℕ → ℕ → List ℕ → ℕ → Verdict
entry_verdict n i order j =
    fault_if (leb n (get_or order j 0) || any_from (λ h. eqb (get_or order h 0) (get_or order j 0)) 0 j) i B j

-- B at the first such position.
unfoldable pub order_verdict : ℕ → ℕ → List ℕ → Verdict
order_verdict n i order = first_from is_faulty (entry_verdict n i order) accepted 0 n

-- Of the station at position j: the position of the earliest of its earlier neighbours in play, by the first `count` lines; j where it has none.
unfoldable pub earliest : List ℕ → List ℕ → ℕ → List ℕ → ℕ → ℕ → ℕ
earliest lines ranks i order count j =
    lowest (λ h. linked lines count (in_play ranks i) (get_or order j 0) (get_or order h 0)) j j

-- Whether its line to the earliest of them has rank i.
unfoldable pub has_parent : List ℕ → List ℕ → ℕ → List ℕ → ℕ → ℕ → Bool
has_parent lines ranks i order count j =
    linked lines count (of_rank ranks i) (get_or order j 0) (get_or order (earliest lines ranks i order count j) 0)

-- Whether it has a rank-i line to another earlier station.
unfoldable pub has_other : List ℕ → List ℕ → ℕ → List ℕ → ℕ → ℕ → Bool
has_other lines ranks i order count j =
    any_from (λ h. not (eqb h (earliest lines ranks i order count j)) && linked lines count (of_rank ranks i) (get_or order j 0) (get_or order h 0)) 0 j

-- C: a station has an earlier neighbour in play, and its line to the earliest of them lacks rank i. Of the station at position j.
unfoldable pub parent_verdict : List ℕ → List ℕ → ℕ → List ℕ → ℕ → Verdict
parent_verdict lines ranks i order j =
    fault_if (ltb (earliest lines ranks i order (length lines / 2) j) j && not (has_parent lines ranks i order (length lines / 2) j)) i C (get_or order j 0)

-- D: a station has a rank-i line to another earlier station.
unfoldable pub other_verdict : List ℕ → List ℕ → ℕ → List ℕ → ℕ → Verdict
other_verdict lines ranks i order j = fault_if (has_other lines ranks i order (length lines / 2) j) i D (get_or order j 0)

-- C before D.
unfoldable pub station_verdict : List ℕ → List ℕ → ℕ → List ℕ → ℕ → Verdict
station_verdict lines ranks i order j = parent_verdict lines ranks i order j or_else other_verdict lines ranks i order j

-- Stations in the round's order.
unfoldable pub stations_verdict : ℕ → List ℕ → List ℕ → ℕ → List ℕ → Verdict
stations_verdict n lines ranks i order = first_from is_faulty (station_verdict lines ranks i order) accepted 0 n

-- One tree more is known: a station without an earlier neighbour in play is a root; another is in the tree of the earliest of them.
-- A tree is named by its root's position.
unfoldable pub add_tree : List ℕ → List ℕ → ℕ → List ℕ → ℕ → List ℕ → List ℕ
add_tree lines ranks i order j trees =
    let parent = earliest lines ranks i order (length lines / 2) j in
    trees ++ (pick (ltb parent j) (get_or trees parent 0) j ∷ [])

-- The trees of the stations at the first `count` positions.
unfoldable pub trees_of : List ℕ → List ℕ → ℕ → List ℕ → ℕ → List ℕ
trees_of lines ranks i order count = up_to (add_tree lines ranks i order) [] count

-- E: a line in play has its ends in different trees. Of the line at place p.
unfoldable pub line_verdict : ℕ → List ℕ → List ℕ → ℕ → List ℕ → ℕ → Verdict
line_verdict n lines ranks i order p =
    let trees = trees_of lines ranks i order n in
    let one = get_or trees (position_of n order (end_one lines p)) 0 in
    let two = get_or trees (position_of n order (end_two lines p)) 0 in
    fault_if (in_play ranks i p && not (eqb one two)) i E p

-- E by place.
unfoldable pub lines_verdict : ℕ → List ℕ → List ℕ → ℕ → List ℕ → Verdict
lines_verdict n lines ranks i order = first_from is_faulty (line_verdict n lines ranks i order) accepted 0 (length lines / 2)

-- A round: B; then stations in the round's order, C before D; then E by place.
unfoldable pub round_verdict : ℕ → List ℕ → List ℕ → ℕ → List ℕ → Verdict
round_verdict n lines ranks i order =
    order_verdict n i order
    or_else stations_verdict n lines ranks i order
    or_else lines_verdict n lines ranks i order

-- Each round in turn.
unfoldable pub rounds_verdict : ℕ → ℕ → List ℕ → List ℕ → List ℕ → Verdict
rounds_verdict n k lines ranks orders = first_from is_faulty (λ i. round_verdict n lines ranks (i + 1) (order_of n orders i)) accepted 0 k

-- A; then each round in turn.
unfoldable pub plan_verdict : ℕ → ℕ → List ℕ → List ℕ → List ℕ → Verdict
plan_verdict n k lines ranks orders = ranks_verdict k lines ranks or_else rounds_verdict n k lines ranks orders

-- The check tries 1, 2, 3, 5, then lines. `short` says whether a lent buffer is shorter than needed.
unfoldable pub plan_judged : ℕ → ℕ → List ℕ → Bool → Answer (Unit {0})
plan_judged n k lines short =
    stations_judged n
    and_then length_judged 0 lines
    and_then level_judged k
    and_then room_judged short
    and_then lines_judged 0 n lines

-- What the check answers: a refusal, or what it found.
unfoldable pub check_answer : ℕ → ℕ → List ℕ → List ℕ → List ℕ → Answer Verdict
check_answer n k lines ranks orders =
    plan_judged n k lines (plan_short n k lines (length ranks) (length orders)) and_then given (plan_verdict n k lines ranks orders)
