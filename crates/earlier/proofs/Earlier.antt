-- What the marks tell: a set that remembers the first list, and then each line of the second in list order, holds a line's pair
-- just where the line stood earlier. One law for every number of stations and of words. Assumes nothing.
use Prim.Native.Nat.{ℕ, zero, suc, ◌*◌, ◌/◌, ◌<◌, ◌≤◌}
use mathlib.Core.Path.{◌≡◌, refl, sym, ◌∙◌}
use mathlib.Core.Bool.{Bool, true, false, ◌&&◌, ◌||◌, or_assoc, or-false}
use mathlib.Core.List.{List}
use native.Mathlib.Decide.{ℕ_discrete, dec_lt}
use native.Mathlib.Numerals.{add-one}
use native.Mathlib.Omega.{arith}
use borrow.Author.Tests.{lt-ltb, le-ltb, eq-eqb, ne_eqb}
use lib.Dec.{ltb}
use lib.ListN.{length, replicate}
use Rattle.laws.specs.Fold.{pick, up_to, first_from}
use Rattle.laws.proofs.Fold.{any_more}
use Rattle.bits.specs.Sets.{is_in, put_in}
use Rattle.bits.proofs.Sets.{in_put, in_none, length_put}
use Rattle.network.specs.Lines.{end_one, end_two, network, Proper}
use Rattle.network.specs.Judging.{same_ends, stood_before}
use Rattle.earlier.specs.Pairs.{pairs_of, pair_of, Remembers, remembered, mark_line, marked}
use Rattle.earlier.specs.Earlier.{stood_earlier}
use Rattle.earlier.proofs.Pairs.{remember_none, remember_more}

-- One line more stood before.
stood_more : (lines : List ℕ) (p a b : ℕ) → stood_before lines (suc p) a b ≡ (stood_before lines p a b || same_ends a b (end_one lines p) (end_two lines p))
stood_more lines p a b = rw (add-one p) at (any_more (λ q. same_ends a b (end_one lines q) (end_two lines q)) p)

-- A set that remembers some pairs remembers the lines before place p too, once they are put in.
module _ {n : ℕ} {pairs : List ℕ} {old : ℕ → ℕ → Bool} (R : Remembers n pairs old) (lines : List ℕ) (proper : Proper (network n lines)) where
  pub lines_remembered : (p : ℕ) → p ≤ length lines / 2 → Remembers n (remembered lines pairs p) (λ a b. old a b || stood_before lines p a b)
  unfolding up_to first_from
  lines_remembered zero l = record { room = R.room; exactly = λ a b h k m. R.exactly a b h k m ∙ sym (or-false (old a b)) }
  lines_remembered (suc p) l = more (remember_more (lines_remembered p (omega arith)) (end_one lines p) (end_two lines p) (proper.one_in p l) (proper.two_in p l) (proper.apart p l))
    where
      more : Remembers n (put_in (remembered lines pairs p) (pair_of lines p)) (λ a b. (old a b || stood_before lines p a b) || same_ends a b (end_one lines p) (end_two lines p))
          → Remembers n (put_in (remembered lines pairs p) (pair_of lines p)) (λ a b. old a b || stood_before lines (suc p) a b)
      more S =
          record {
            room = S.room;
            exactly = λ a b h k m. S.exactly a b h k m ∙ rw (stood_more lines p a b) (or_assoc (old a b) (stood_before lines p a b) (same_ends a b (end_one lines p) (end_two lines p)));
          }

-- The marks after one place more: x is marked if it is this place and stood, or if it was marked.
mark_one : (again : List ℕ) (p x : ℕ) (stood : ℕ → Bool) → p / 64 < length again → is_in again x ≡ (ltb x p && stood x)
    → is_in (pick (stood p) (put_in again p) again) x ≡ (ltb x (suc p) && stood x)
mark_one again p x stood room old = go (ℕ_discrete p x) (dec_lt x p) (stood p) refl
  where
    go : Dec (p ≡ x) → Dec (x < p) → (b : Bool) → stood p ≡ b → is_in (pick b (put_in again p) again) x ≡ (ltb x (suc p) && stood x)
    go (yes e) d true s = in_put again p x room ∙ rw (eq-eqb p x e, lt-ltb x (suc p) (omega arith), ← e, s)
    go (yes e) d false s = old ∙ rw (← e, s, le-ltb p p (omega arith), lt-ltb p (suc p) (omega arith))
    go (no n) (yes l) true s = in_put again p x room ∙ rw (ne_eqb p x n, old, lt-ltb x p l, lt-ltb x (suc p) (omega arith))
    go (no n) (yes l) false s = old ∙ rw (lt-ltb x p l, lt-ltb x (suc p) (omega arith))
    go (no n) (no m) true s = in_put again p x room ∙ rw (ne_eqb p x n, old, le-ltb x p (omega arith), le-ltb x (suc p) (omega arith))
    go (no n) (no m) false s = old ∙ rw (le-ltb x p (omega arith), le-ltb x (suc p) (omega arith))

marked_length : (lines pairs again : List ℕ) (p : ℕ) → length (marked lines pairs again p) ≡ length again
unfolding up_to mark_line
marked_length lines pairs again zero = refl
marked_length lines pairs again (suc p) = go (is_in (remembered lines pairs p) (pair_of lines p)) (marked lines pairs again p) (marked_length lines pairs again p)
  where
    go : (b : Bool) (old : List ℕ) → length old ≡ length again → length (pick b (put_in old p) old) ≡ length again
    go true old e = length_put old p ∙ e
    go false old e = e

-- THEOREM. The marks of the second list, with a set of pairs that remembers the first: just the lines that stood earlier.
module _ (n words : ℕ) (room : pairs_of n ≤ 64 * words) (first second : List ℕ) (one : Proper (network n first)) (two : Proper (network n second)) where
  abbrev known : List ℕ
  known = remembered first (replicate words 0) (length first / 2)

  knows : Remembers n known (stood_before first (length first / 2))
  knows = lines_remembered (remember_none n words room) first one (length first / 2) (omega arith)

  stood : (p : ℕ) → p < length second / 2 → is_in (remembered second known p) (pair_of second p) ≡ stood_earlier first second p
  unfolding stood_earlier
  stood p l = (lines_remembered knows second two p (omega arith)).exactly (end_one second p) (end_two second p) (two.one_in p l) (two.two_in p l) (two.apart p l)

  marks : length second ≤ 16384 → (p : ℕ) → p ≤ length second / 2 → (x : ℕ) → is_in (marked second known (replicate 128 0) p) x ≡ (ltb x p && stood_earlier first second x)
  unfolding up_to mark_line
  marks few zero l x = in_none 128 x ∙ rw (le-ltb x 0 (omega arith))
  marks few (suc p) l x =
      rw (stood p l)
      (mark_one (marked second known (replicate 128 0) p) p x (stood_earlier first second) (omega (arith, marked_length second known (replicate 128 0) p)) (marks few p (omega arith) x))

  -- the set as it is after the first list, and the marks before and after the second
  pub marks_earlier : length second ≤ 16384 → (pairs none again : List ℕ) → pairs ≡ remembered first (replicate words 0) (length first / 2) → none ≡ replicate 128 0
      → again ≡ marked second pairs none (length second / 2) → (x : ℕ) → is_in again x ≡ (ltb x (length second / 2) && stood_earlier first second x)
  marks_earlier few pairs none again e f g x = rw (g, e, f) (marks few (length second / 2) (omega arith) x)
