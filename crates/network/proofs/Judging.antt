-- The laws of judging sizes and one line: what its ends and the lines before it make of it.
-- Assumes nothing.
use Prim.Native.Nat.{ℕ}
use mathlib.Core.Path.{◌≡◌, sym, ◌∙◌}
use mathlib.Core.Bool.{true, false, ◌||◌}
use mathlib.Core.List.{List}
use borrow.Author.Tests.{leb-false, eqb-false}
use lib.Dec.{leb, eqb}
use Rattle.kinds.specs.Answers.{Answer.refused, taken, refuse_if, is_refused}
use Rattle.kinds.proofs.Answers.{then_next, then_refused, then_both, passed}
use Rattle.limits.specs.Limits.{stations_judged, length_judged}
use Rattle.limits.proofs.Limits.{stations_good, length_good}
use Rattle.network.specs.Lines.{end_one, end_two, Within}
use Rattle.network.specs.Faults.{EndsGood}
use Rattle.network.specs.Judging.{stood_before, ends_judged, line_judged}
use Rattle.laws.proofs.Truth.{neither}

-- Stations and a list whose numbers are not refused are within the limits.
pub within_good : (list n : ℕ) (lines : List ℕ) → is_refused (stations_judged n) ≡ false → is_refused (length_judged list lines) ≡ false → Within n lines
within_good list n lines e f =
    let (some, most) = stations_good n e in
    let (even, few) = length_good list lines f in
    record { some = some; most = most; even = even; few = few }

-- What is known of ends that are not refused.
pub ends_good : (list n a b p : ℕ) → is_refused (ends_judged list n a b p) ≡ false → EndsGood n a b
unfolding ends_judged
ends_good list n a b p e =
    let (inside, differ) = then_both (refuse_if (leb n a || leb n b) 6 p list) (refuse_if (eqb a b) 7 p list) e in
    let (x, y) = neither (leb n a) (leb n b) (passed (leb n a || leb n b) 6 p list inside) in
    record { one_in = leb-false n a x; two_in = leb-false n b y; apart = eqb-false a b (passed (eqb a b) 7 p list differ) }

-- The line a b at place p of the list: refused for its ends; refused as it stood earlier; taken.
module _ (list n : ℕ) (lines : List ℕ) (p a b : ℕ) (one : a ≡ end_one lines p) (two : b ≡ end_two lines p) where
  pub line_ends_refused : is_refused (ends_judged list n a b p) ≡ true → ends_judged list n a b p ≡ line_judged list n lines p
  unfolding line_judged
  line_ends_refused e = rw (← one, ← two) (sym (then_refused (ends_judged list n a b p) _ e))

  pub line_stood : is_refused (ends_judged list n a b p) ≡ false → stood_before lines p a b ≡ true → refused 8 p list ≡ line_judged list n lines p
  unfolding line_judged
  line_stood e s = rw (← one, ← two) (sym (then_next (ends_judged list n a b p) _ e ∙ rw s))

  pub line_taken : is_refused (ends_judged list n a b p) ≡ false → stood_before lines p a b ≡ false → taken ≡ line_judged list n lines p
  unfolding line_judged
  line_taken e s = rw (← one, ← two) (sym (then_next (ends_judged list n a b p) _ e ∙ rw s))
