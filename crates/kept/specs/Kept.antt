-- The ends of chosen lines of a list, in list order, and of the kept lines, those of nonzero rank: how many there are, and copying them out.
-- Assumes nothing.
use Rattle.std.specs.Prelude.{ℕ, ◌*◌, ◌/◌, Bool, not, ◌||◌, List, [], ◌∷◌, ◌++◌, length, get_or, drop, ltb, eqb}
use Rattle.laws.specs.Fold.{pick, up_to}
use Rattle.laws.specs.Count.{count}
use Rattle.kinds.specs.Answers.{Answer, Answer.given, ◌and_then◌, is_refused}
use Rattle.network.specs.Lines.{end_one, end_two}
use Rattle.limits.specs.Limits.{length_judged, room_judged}

-- Any nonzero rank is kept.
abbrev pub is_kept : List ℕ → ℕ → Bool
is_kept ranks p = not (eqb (get_or ranks p 0) 0)

-- The number of nonzero ranks.
unfoldable pub kept_count : List ℕ → ℕ
kept_count ranks = count (length ranks) (is_kept ranks)

-- The line at place p, after those put before it, if it is chosen.
abbrev pub put_line : (ℕ → Bool) → List ℕ → ℕ → List ℕ → List ℕ
put_line chosen lines p front = pick (chosen p) (front ++ (end_one lines p ∷ (end_two lines p ∷ []))) front

-- The ends of the chosen lines, in list order.
unfoldable pub chosen_lines : (ℕ → Bool) → List ℕ → List ℕ
chosen_lines chosen lines = up_to (put_line chosen lines) [] (length lines / 2)

-- The line at place p, after those copied before it, if it is kept.
unfoldable pub copy_line : List ℕ → List ℕ → ℕ → List ℕ → List ℕ
copy_line lines ranks = put_line (is_kept ranks) lines

-- The ends of the kept lines, in list order.
unfoldable pub kept_lines : List ℕ → List ℕ → List ℕ
kept_lines lines ranks = up_to (copy_line lines ranks) [] (length lines / 2)

-- How many of a list's lines are kept.
unfoldable pub kept_of : List ℕ → List ℕ → ℕ
kept_of lines ranks = count (length lines / 2) (is_kept ranks)

-- What copying answers, given the room for numbers: 2; then 5, ranks shorter than m or room for fewer than twice the kept lines; else how many.
unfoldable pub copy_answer : List ℕ → List ℕ → ℕ → Answer ℕ
copy_answer lines ranks room =
    length_judged 0 lines
    and_then room_judged (ltb (length ranks) (length lines / 2) || ltb room (2 * kept_of lines ranks))
    and_then given (kept_of lines ranks)

-- A buffer after a call: as it was where the call is refused, else written from the front, later places untouched.
unfoldable pub after : {A : Type 0} → Answer A → List ℕ → List ℕ → List ℕ
after answer new old = pick (is_refused answer) old (new ++ drop (length new) old)
