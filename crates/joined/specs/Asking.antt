-- The joined question, and its refusals in order: 1, 2, lines, 10, 11.
-- Assumes nothing.
use Rattle.std.specs.Prelude.{ℕ, ◌-◌, Bool, ◌&&◌, ◌||◌, List, length, get_or, ltb, leb}
use Rattle.laws.specs.Fold.{first_from}
use Rattle.kinds.specs.Answers.{Answer, Answer.given, taken, refuse_if, ◌and_then◌, is_refused}
use Rattle.network.specs.Judging.{list_judged}
use Rattle.pieces.specs.Away.{is_away}
use Rattle.pieces.specs.Pieces.{one_piece}

-- 10: the number at an index of the taken-away list is n or more, or not above the one before it.
unfoldable pub away_judged : ℕ → List ℕ → ℕ → Answer (Unit {0})
away_judged n away j = refuse_if (leb n (get_or away j 0) || (ltb 0 j && leb (get_or away j 0) (get_or away (j - 1) 0))) 10 j 0

-- 10 at the first such index.
unfoldable pub all_away_judged : ℕ → List ℕ → Answer (Unit {0})
all_away_judged n away = first_from is_refused (away_judged n away) taken 0 (length away)

-- 11: an asked station is n or more, or taken away; `which` is 0 for the first and 1 for the second.
unfoldable pub asked_judged : ℕ → List ℕ → (which v : ℕ) → Answer (Unit {0})
asked_judged n away which v = refuse_if (leb n v || is_away away v) 11 which 0

-- Whether a and b are joined when the stations of a list are taken away.
unfoldable pub joined_answer : ℕ → List ℕ → List ℕ → (a b : ℕ) → Answer Bool
joined_answer n lines away a b =
    list_judged 0 n lines
    and_then all_away_judged n away
    and_then asked_judged n away 0 a
    and_then asked_judged n away 1 b
    and_then given (one_piece n lines (is_away away) a b)
