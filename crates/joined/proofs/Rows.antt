-- THEOREM. What the joined question answers follows its rows.
-- Assumes nothing.
use Prim.Native.Nat.{ℕ, ◌-◌}
use mathlib.Core.Logic.Iff
use mathlib.Core.List.{List}
use lib.ListN.{get_or}
use Rattle.laws.proofs.Truth.{or_either, and_both, ltb_exactly, leb_exactly}
use Rattle.kinds.specs.Rows.{Follows}
use Rattle.kinds.proofs.Rows.{row_follows, then_follows, given_follows, each_follows}
use Rattle.network.proofs.Rows.{list_follows}
use Rattle.pieces.specs.Away.{is_away}
use Rattle.pieces.specs.Pieces.{one_piece}
use Rattle.joined.specs.Asking.{away_judged, all_away_judged, asked_judged, joined_answer}
use Rattle.joined.specs.Rows.{away_rows, asked_row, joined_rows}

-- 10, and 11 of each asked station.
module _ (n : ℕ) (away : List ℕ) where
  away_follows : Follows (all_away_judged n away) (away_rows n away)
  unfolding all_away_judged away_judged
  away_follows =
      each_follows
      (λ j h. row_follows (or_either (leb_exactly n (get_or away j 0)) (and_both (ltb_exactly 0 j) (leb_exactly (get_or away j 0) (get_or away (j - 1) 0)))))

  asked_follows : (which v : ℕ) → Follows (asked_judged n away which v) (asked_row n away which v)
  unfolding asked_judged
  asked_follows which v = row_follows (or_either (leb_exactly n v) Iff.rfl)

pub joined_follows : (n : ℕ) (lines away : List ℕ) (a b : ℕ) → Follows (joined_answer n lines away a b) (joined_rows n lines away a b)
unfolding joined_answer
joined_follows n lines away a b =
    then_follows (list_follows 0 n lines)
    (then_follows (away_follows n away)
    (then_follows (asked_follows n away 0 a) (given_follows (one_piece n lines (is_away away) a b) (asked_follows n away 1 b))))
