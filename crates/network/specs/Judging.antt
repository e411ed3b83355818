-- The judge of lines: refusals 1 and 2, then each line in list order for 6, 7 and 8.
-- Assumes nothing.
use Rattle.std.specs.Prelude.{ℕ, ◌/◌, Bool, ◌&&◌, ◌||◌, List, length, leb, eqb}
use Rattle.laws.specs.Fold.{first_from, any_from}
use Rattle.kinds.specs.Answers.{Answer, taken, refuse_if, ◌and_then◌, is_refused}
use Rattle.limits.specs.Limits.{stations_judged, length_judged}
use Rattle.network.specs.Lines.{end_one, end_two}

-- a b and c d are the same two stations, either way round.
unfoldable pub same_ends : ℕ → ℕ → ℕ → ℕ → Bool
same_ends a b c d = (eqb a c && eqb b d) || (eqb a d && eqb b c)

-- Whether one of the lines before place p has the ends a and b.
abbrev pub stood_before : List ℕ → ℕ → ℕ → ℕ → Bool
stood_before lines p a b = any_from (λ q. same_ends a b (end_one lines q) (end_two lines q)) 0 p

-- 6: a line end is n or more; 7: a line's ends are equal. Of the line a b at place p.
unfoldable pub ends_judged : ℕ → ℕ → ℕ → ℕ → ℕ → Answer (Unit {0})
ends_judged list n a b p = refuse_if (leb n a || leb n b) 6 p list and_then refuse_if (eqb a b) 7 p list

-- The line at place p: 6, then 7, then 8, that the same two ends, either way round, stood earlier.
unfoldable pub line_judged : ℕ → ℕ → List ℕ → ℕ → Answer (Unit {0})
line_judged list n lines p =
    ends_judged list n (end_one lines p) (end_two lines p) p
    and_then refuse_if (stood_before lines p (end_one lines p) (end_two lines p)) 8 p list

-- Each line in list order.
unfoldable pub lines_judged : ℕ → ℕ → List ℕ → Answer (Unit {0})
lines_judged list n lines = first_from is_refused (line_judged list n lines) taken 0 (length lines / 2)

-- The judge: 1, then 2, then the lines. `list` says which list it is, by the document's number.
unfoldable pub list_judged : ℕ → ℕ → List ℕ → Answer (Unit {0})
list_judged list n lines = stations_judged n and_then length_judged list lines and_then lines_judged list n lines
