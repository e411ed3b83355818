-- The laws of one record: when it is taken, and what is then known of it; and of the records taken in order, one at a time.
-- Assumes nothing.
use Prim.Native.Nat.{ℕ, zero, suc, ◌+◌, ◌<◌, ◌≤◌}
use mathlib.Core.Path.{◌≡◌, refl, sym, ap, ◌∙◌, subst}
use mathlib.Core.Logic.{◌≢◌, ◌⊎◌, ◌⊎◌.inl, ◌⊎◌.inr}
use mathlib.Core.Bool.{Bool, true, false, ◌&&◌, ◌||◌}
use mathlib.Core.List.{List}
use native.Mathlib.Omega.{arith}
use borrow.Author.Tests.{ltb-false, eqb-true, eqb-false, le-ltb, eq-eqb, ne_eqb}
use lib.ListN.{length}
use lib.Dec.{ltb, eqb}
use Rattle.laws.specs.Fold.{pick}
use Rattle.kinds.specs.Answers.{Answer, Answer.given, Answer.refused, taken, refuse_if, ◌and_then◌, is_refused}
use Rattle.kinds.proofs.Answers.{then_both, then_given, passed}
use Rattle.reading.specs.Numbers.{number_at, mark_nw, mark_ln, mark_rt, mark_en}
use Rattle.reading.specs.Reading.{offset_after, length_here, record_judged, order_after, record_counted, record_after, end_read, by_mark, records_read}
use Rattle.reading.specs.declared.Order.{Order}
use Rattle.reading.specs.declared.Order.TheVariants.{First, Lines, Starts}

-- An allowed record stands whole at an offset.
pub record Whole (order : Order) (bytes : List ℕ) (offset : ℕ) : Type 0 where
  pub marked : offset + 2 ≤ length bytes
  pub allowed : length_here order (number_at bytes offset) ≢ 0
  pub whole : offset + length_here order (number_at bytes offset) ≤ length bytes

pub record_whole : (order : Order) (bytes : List ℕ) (offset : ℕ) → is_refused (record_judged order bytes offset) ≡ false → Whole order bytes offset
unfolding record_judged
record_whole order bytes offset e =
    let size = length_here order (number_at bytes offset) in
    let (a, e₁) = then_both (refuse_if (ltb (length bytes) (offset + 2)) 21 offset 3)
    (refuse_if (eqb size 0) 20 offset 3 and_then refuse_if (ltb (length bytes) (offset + size)) 21 offset 3) e in
    let (b, d) = then_both (refuse_if (eqb size 0) 20 offset 3) (refuse_if (ltb (length bytes) (offset + size)) 21 offset 3) e₁ in
    record {
      marked = ltb-false (length bytes) (offset + 2) (passed (ltb (length bytes) (offset + 2)) 21 offset 3 a);
      allowed = eqb-false size 0 (passed (eqb size 0) 20 offset 3 b);
      whole = ltb-false (length bytes) (offset + size) (passed (ltb (length bytes) (offset + size)) 21 offset 3 d);
    }

pub whole_record : (order : Order) (bytes : List ℕ) (offset size : ℕ) → length_here order (number_at bytes offset) ≡ size → 2 ≤ size
    → offset + size ≤ length bytes → record_judged order bytes offset ≡ taken
unfolding record_judged
whole_record order bytes offset size e two h =
    rw (e, le-ltb (length bytes) (offset + 2) (omega arith), ne_eqb size 0 (λ z. omega arith), le-ltb (length bytes) (offset + size) h)

-- Any other mark has no length, and once an RT stood the order is past the lines.
pub no_length : (order : Order) (mark : ℕ) → mark ≢ mark_nw → mark ≢ mark_ln → mark ≢ mark_rt → mark ≢ mark_en → 0 ≡ length_here order mark
unfolding length_here
no_length First mark w l r e = rw (ne_eqb mark mark_nw w)
no_length Lines mark w l r e = rw (ne_eqb mark mark_ln l, ne_eqb mark mark_rt r, ne_eqb mark mark_en e)
no_length Starts mark w l r e = rw (ne_eqb mark mark_rt r, ne_eqb mark mark_en e)

pub order_starts : (s : ℕ) → s ≢ 0 → Starts ≡ order_after s
order_starts zero n = absurd (n refl)
order_starts (suc s) n = refl

-- The first record, NW, whole.
pub first_whole : (bytes : List ℕ) → is_refused (record_judged First bytes 0) ≡ false → (number_at bytes 0 ≡ 22350) × (6 ≤ length bytes)
unfolding length_here
first_whole bytes e = go (eqb (number_at bytes 0) mark_nw) refl (record_whole First bytes 0 e).allowed (record_whole First bytes 0 e).whole
  where
    go : (b : Bool) → eqb (number_at bytes 0) mark_nw ≡ b → ◌≢◌ {A = ℕ} (pick b 6 0) 0 → 0 + pick b 6 0 ≤ length bytes
        → (number_at bytes 0 ≡ 22350) × (6 ≤ length bytes)
    go true f n h = (eqb-true (number_at bytes 0) mark_nw f, h)
    go false f n h = absurd (n refl)

-- The kinds of record that the order allows after s RT records, each with its length.
pub data Kind (s mark : ℕ) : ℕ → Type 0 where
  line : s ≡ 0 → mark ≡ 20044 → Kind s mark 6
  start : mark ≡ 21586 → Kind s mark 4
  end : mark ≡ 20037 → Kind s mark 4

-- What is not nothing is one of the kinds.
kind_picked : (s mark : ℕ) (b d : Bool) → (b ≡ true → Kind s mark 4) → (d ≡ true → Kind s mark 4) → ◌≢◌ {A = ℕ} (pick (b || d) 4 0) 0 → Kind s mark (pick (b || d) 4 0)
kind_picked s mark true d k l n = k refl
kind_picked s mark false true k l n = l refl
kind_picked s mark false false k l n = absurd (n refl)

pub kind_here : (s mark : ℕ) → length_here (order_after s) mark ≢ 0 → Kind s mark (length_here (order_after s) mark)
unfolding length_here
kind_here zero mark n = go (eqb mark mark_ln) refl n
  where
    go : (b : Bool) → eqb mark mark_ln ≡ b → ◌≢◌ {A = ℕ} (pick b 6 (pick (eqb mark mark_rt || eqb mark mark_en) 4 0)) 0
        → Kind 0 mark (pick b 6 (pick (eqb mark mark_rt || eqb mark mark_en) 4 0))
    go true e n = line refl (eqb-true mark mark_ln e)
    go false e n = kind_picked 0 mark (eqb mark mark_rt) (eqb mark mark_en) (λ r. start (eqb-true mark mark_rt r)) (λ r. end (eqb-true mark mark_en r)) n
kind_here (suc s) mark n =
    kind_picked (suc s) mark (eqb mark mark_rt) (eqb mark mark_en) (λ r. start (eqb-true mark mark_rt r)) (λ r. end (eqb-true mark mark_en r)) n

-- The record after m LN and s RT has this mark, and is allowed, whole and not one too many.
pub record Next (bytes : List ℕ) (m s mark : ℕ) : Type 0 where
  pub is : number_at bytes (offset_after m s) ≡ mark
  pub size : ℕ
  pub kind : Kind s mark size
  pub whole : offset_after m s + size ≤ length bytes
  pub few_lines : mark ≡ 20044 → m ≢ 8192
  pub few_starts : mark ≡ 21586 → s ≢ 16

-- one of two tests fails
not_both : (a b x y : ℕ) → (eqb a b && eqb x y) ≡ false → a ≡ b → x ≢ y
not_both a b x y e h = eqb-false x y (sym (rw (eq-eqb a b h)) ∙ e)

pub next_given : (bytes : List ℕ) (m s mark : ℕ) → record_after bytes m s ≡ given mark → Next bytes m s mark
unfolding record_after record_counted
next_given bytes m s mark e =
    let here = number_at bytes (offset_after m s) in
    let lines = refuse_if (eqb here mark_ln && eqb m 8192) 2 (offset_after m s) 3 in
    let starts = refuse_if (eqb here mark_rt && eqb s 16) 4 (offset_after m s) 3 in
    let answer : Answer ℕ = given here in
    let (a, e₁) = then_given (record_judged (order_after s) bytes (offset_after m s)) (lines and_then starts and_then answer) e in
    let (b, e₂) = then_given lines (starts and_then answer) e₁ in
    let (d, e₃) = then_given starts answer e₂ in
    let r = record_whole (order_after s) bytes (offset_after m s) (ap is_refused a) in
    let is : here ≡ mark = cc in
    record {
      is = is;
      size = length_here (order_after s) here;
      kind = subst (λ (x : ℕ). Kind s x (length_here (order_after s) here)) is (kind_here s here r.allowed);
      whole = r.whole;
      few_lines = λ h. not_both here mark_ln m 8192 (passed (eqb here mark_ln && eqb m 8192) 2 (offset_after m s) 3 (ap is_refused b)) (is ∙ h);
      few_starts = λ h. not_both here mark_rt s 16 (passed (eqb here mark_rt && eqb s 16) 4 (offset_after m s) 3 (ap is_refused d)) (is ∙ h);
    }

-- The other way: a whole record of each kind, not one too many, is given by its mark.
pub line_next : (bytes : List ℕ) (m : ℕ) → number_at bytes (offset_after m 0) ≡ 20044 → m < 8192 → offset_after m 0 + 6 ≤ length bytes
    → record_after bytes m 0 ≡ given mark_ln
unfolding record_after record_counted length_here
line_next bytes m e few h = rw (whole_record Lines bytes (offset_after m 0) 6 (rw e) (omega arith) h, e, ne_eqb m 8192 (λ z. omega arith))

order_four : (s mark : ℕ) → (mark ≡ 21586) ⊎ (mark ≡ 20037) → length_here (order_after s) mark ≡ 4
unfolding length_here
order_four zero mark (inl e) = rw e
order_four zero mark (inr e) = rw e
order_four (suc s) mark (inl e) = rw e
order_four (suc s) mark (inr e) = rw e

pub start_next : (bytes : List ℕ) (m s : ℕ) → number_at bytes (offset_after m s) ≡ 21586 → s < 16 → offset_after m s + 4 ≤ length bytes
    → record_after bytes m s ≡ given mark_rt
unfolding record_after record_counted
start_next bytes m s e few h =
    rw (whole_record (order_after s) bytes (offset_after m s) 4 (order_four s (number_at bytes (offset_after m s)) (inl e)) (omega arith) h, e, ne_eqb s 16 (λ z. omega arith))

pub end_next : (bytes : List ℕ) (m s : ℕ) → number_at bytes (offset_after m s) ≡ 20037 → offset_after m s + 4 ≤ length bytes
    → record_after bytes m s ≡ given mark_en
unfolding record_after record_counted
end_next bytes m s e h =
    rw (whole_record (order_after s) bytes (offset_after m s) 4 (order_four s (number_at bytes (offset_after m s)) (inr e)) (omega arith) h, e)

-- What is known of the next record by its mark.
pub next_line : {bytes : List ℕ} {m s : ℕ} → Next bytes m s 20044 → (s ≡ 0) × (m ≢ 8192) × (offset_after m s + 6 ≤ length bytes)
next_line {bytes} {m} {s} n = go n.size n.kind n.whole
  where
    go : (size : ℕ) → Kind s 20044 size → offset_after m s + size ≤ length bytes → (s ≡ 0) × (m ≢ 8192) × (offset_after m s + 6 ≤ length bytes)
    go size (line z e) h = (z, n.few_lines refl, h)
    go size (start e) h = absurd (omega arith)
    go size (end e) h = absurd (omega arith)

pub next_start : {bytes : List ℕ} {m s : ℕ} → Next bytes m s 21586 → (s ≢ 16) × (offset_after m s + 4 ≤ length bytes)
next_start {bytes} {m} {s} n = go n.size n.kind n.whole
  where
    go : (size : ℕ) → Kind s 21586 size → offset_after m s + size ≤ length bytes → (s ≢ 16) × (offset_after m s + 4 ≤ length bytes)
    go size (line z e) h = absurd (omega arith)
    go size (start e) h = (n.few_starts refl, h)
    go size (end e) h = absurd (omega arith)

pub next_end : {bytes : List ℕ} {m s : ℕ} → Next bytes m s 20037 → offset_after m s + 4 ≤ length bytes
next_end {bytes} {m} {s} n = go n.size n.kind n.whole
  where
    go : (size : ℕ) → Kind s 20037 size → offset_after m s + size ≤ length bytes → offset_after m s + 4 ≤ length bytes
    go size (line z e) h = absurd (omega arith)
    go size (start e) h = absurd (omega arith)
    go size (end e) h = h

-- A record that is neither LN nor RT is EN.
pub kind_end : {s mark size : ℕ} → Kind s mark size → mark ≢ 20044 → mark ≢ 21586 → mark ≡ 20037
kind_end (line z e) l r = absurd (l e)
kind_end (start e) l r = absurd (r e)
kind_end (end e) l r = e

-- The records taken in order, one at a time: what is left is the answer.
module _ (bytes : List ℕ) (m s left rest : ℕ) (more : left ≡ suc rest) where
  pub read_line : record_after bytes m s ≡ given mark_ln → records_read bytes m s left ≡ records_read bytes (m + 1) s rest
  unfolding records_read by_mark
  read_line e = rw (more, e)

  pub read_start : record_after bytes m s ≡ given mark_rt → records_read bytes m s left ≡ records_read bytes m (s + 1) rest
  unfolding records_read by_mark
  read_start e = rw (more, e)

  pub read_end : record_after bytes m s ≡ given mark_en → records_read bytes m s left ≡ end_read bytes m s
  unfolding records_read by_mark
  read_end e = rw (more, e)

  pub read_refused : (number place list : ℕ) → refused number place list ≡ record_after bytes m s → records_read bytes m s left ≡ refused number place list
  unfolding records_read by_mark
  read_refused number place list e = rw (more, ← e)
