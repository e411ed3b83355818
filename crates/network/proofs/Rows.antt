-- The judge of lines follows the rows of a line list.
-- Assumes nothing.
use Prim.Native.Nat.{ℕ}
use mathlib.Core.Bool.{◌||◌}
use mathlib.Core.List.{List}
use lib.Dec.{leb, eqb}
use Rattle.laws.proofs.Truth.{or_either, leb_exactly, eqb_exactly}
use Rattle.kinds.specs.Answers.{refuse_if}
use Rattle.kinds.specs.Rows.{Follows}
use Rattle.kinds.proofs.Answers.{then_group}
use Rattle.kinds.proofs.Rows.{row_follows, then_follows, each_follows}
use Rattle.limits.proofs.Rows.{stations_follows, length_follows}
use Rattle.network.specs.Lines.{end_one, end_two}
use Rattle.network.specs.Judging.{stood_before, ends_judged, line_judged, lines_judged, list_judged}
use Rattle.network.specs.Rows.{line_rows, lines_rows, list_rows}
use Rattle.network.proofs.Sound.{stood_exactly}

module _ (list n : ℕ) (lines : List ℕ) where
  -- One line: 6, 7, 8.
  pub line_follows : (p : ℕ) → Follows (line_judged list n lines p) (line_rows list n lines p)
  unfolding line_judged ends_judged
  line_follows p =
      let a = end_one lines p in
      let b = end_two lines p in
      rw (then_group (refuse_if (leb n a || leb n b) 6 p list) (refuse_if (eqb a b) 7 p list) (refuse_if (stood_before lines p a b) 8 p list))
      (then_follows (row_follows (or_either (leb_exactly n a) (leb_exactly n b))) (then_follows (row_follows (eqb_exactly a b)) (row_follows (stood_exactly n lines p a b))))

  -- Each line in list order.
  pub lines_follows : Follows (lines_judged list n lines) (lines_rows list n lines)
  unfolding lines_judged
  lines_follows = each_follows (λ p h. line_follows p)

  -- THEOREM. The judge follows its rows: 1, 2, then the lines.
  pub list_follows : Follows (list_judged list n lines) (list_rows list n lines)
  unfolding list_judged
  list_follows = then_follows (stations_follows n) (then_follows (length_follows list lines) lines_follows)
