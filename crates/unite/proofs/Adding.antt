-- The laws of adding lines: no line of a sound second list stood before in that list, so that those that stood earlier stand in the
-- first; and what is added line by line is the union. Assumes nothing.
use Prim.Native.Nat.{ℕ, zero, suc, ◌+◌, ◌*◌, ◌/◌, ◌<◌, ◌≤◌}
use mathlib.Core.Path.{◌≡◌, refl, sym, ap, ◌∙◌}
use mathlib.Core.Bool.{Bool, true, false, not, ◌&&◌, or-false}
use mathlib.Core.List.{List, [], ◌∷◌, ◌++◌, append_assoc}
use native.Mathlib.Numerals.{add-one}
use native.Mathlib.Omega.{arith}
use borrow.Author.Tests.{lt-ltb}
use lib.Dec.{ltb}
use lib.ListN.{length, get_or, set, take, drop, length-append}
use lib.Seq.{take-length, drop-drop, length-take-le, take-suc}
use Rattle.std.specs.List.{count_by, range_with_len}
use Rattle.std.proofs.lemmas.List.Sums.{count_by_more_yes, count_by_more_no}
use Rattle.std.proofs.lemmas.List.FromFn.{length-range_with_len, get_or-range_with_len}
use Rattle.laws.specs.Fold.{pick, up_to}
use Rattle.laws.specs.Count.{bit, count}
use Rattle.laws.proofs.Lists.{store_next}
use Rattle.laws.proofs.Truth.{not_so}
use Rattle.bits.specs.Sets.{is_in}
use Rattle.network.specs.Lines.{end_one, end_two, Joins.forth}
use Rattle.network.specs.Faults.{Sound}
use Rattle.network.specs.Judging.{stood_before}
use Rattle.network.proofs.Sound.{stood_exactly}
use Rattle.earlier.specs.Earlier.{stood_earlier}
use Rattle.kept.specs.Kept.{chosen_lines}
use Rattle.kept.proofs.Copying.{chosen_length, put_behind}
use Rattle.unite.specs.Union.{add_line, united}
use Rattle.unite.specs.Adding.{Marks, is_new, add_new}

-- No line of a sound list stood before in it, so what stood earlier stands in the first list.
pub sound_marks : {n : ℕ} {first second again : List ℕ} → Sound n second
    → ((p : ℕ) → is_in again p ≡ (ltb p (length second / 2) && stood_earlier first second p)) → Marks first second again
unfolding stood_earlier
sound_marks {n} {first} {second} s found =
    record { exactly = λ p l. found p ∙ rw (lt-ltb p (length second / 2) l, not_before p l) (or-false (stood_before first (length first / 2) (end_one second p) (end_two second p))) }
  where
    not_before : (p : ℕ) → p < length second / 2 → stood_before second p (end_one second p) (end_two second p) ≡ false
    not_before p l = not_so (stood_before second p (end_one second p) (end_two second p)) (λ e. let (q, k, j) = (stood_exactly n second p (end_one second p) (end_two second p)).0 e in
        let same : p ≡ q = s.simple.once p q (end_one second p) (end_two second p) l (omega arith) (forth refl refl) j in omega arith)

-- The numbers below n that pass a test are counted alike in their list and by their definition.
module _ (test : ℕ → Bool) (n : ℕ) where
  abbrev numbers : List ℕ
  numbers = range_with_len 0 n

  count_front : (i : ℕ) → i ≤ n → count_by test (take i numbers) ≡ count i test
  count_front zero h = refl
  count_front (suc i) h = go (test i) refl (count_front i (omega arith))
    where
      size : i < length numbers
      size = omega (arith, length-range_with_len 0 n)

      here : get_or numbers i 0 ≡ i
      here = omega (arith, get_or-range_with_len 0 n i 0 (omega arith))

      go : (b : Bool) → test i ≡ b → count_by test (take i numbers) ≡ count i test → count_by test (take (suc i) numbers) ≡ bit b + count i test
      go true e f = omega (arith, rw (add-one i) at (count_by_more_yes test numbers i 0 size (rw here e)), f)
      go false e f = omega (arith, rw (add-one i) at (count_by_more_no test numbers i 0 size (rw here e)), f)

  count_range : count_by test numbers ≡ count n test
  count_range =
      let all : take n numbers ≡ numbers = rw (length-range_with_len 0 n) at (take-length numbers) in
      rw all at (count_front n (omega arith))

-- The lines that are new, counted in their list.
pub new_count : (again : List ℕ) (n : ℕ) → count_by (λ p. not (is_in again p)) (range_with_len 0 n) ≡ count n (is_new again)
unfolding is_new
new_count again n = count_range (is_new again) n

-- One number more of a list that is copied from the front.
pub copy_next : (lines room : List ℕ) (i : ℕ) → i < length lines → i < length room
    → set (take i lines ++ drop i room) i (get_or lines i 0) ≡ take (i + 1) lines ++ drop (i + 1) room
copy_next lines room i h k =
    store_next (take i lines) room i (get_or lines i 0) (length-take-le i lines (omega arith)) k ∙ rw (add-one i, take-suc lines i 0 h)

module _ (again first second : List ℕ) (marks : Marks first second again) where
  -- a line is new just where the first list lacks it
  new_lacks : (p : ℕ) → p < length second / 2 → is_new again p ≡ not (stood_before first (length first / 2) (end_one second p) (end_two second p))
  unfolding is_new
  new_lacks p l = ap not (marks.exactly p l)

  add_same : (p : ℕ) → p < length second / 2 → (union : List ℕ) → add_new again second p union ≡ add_line first second p union
  unfolding add_new add_line
  add_same p l union = rw (new_lacks p l) (go (stood_before first (length first / 2) (end_one second p) (end_two second p)) (union ++ (end_one second p ∷ (end_two second p ∷ []))))
    where
      go : (b : Bool) (longer : List ℕ) → pick (not b) longer union ≡ pick b union longer
      go true longer = refl
      go false longer = refl

  added_same : (p : ℕ) → p ≤ length second / 2 → up_to (add_new again second) first p ≡ up_to (add_line first second) first p
  unfolding up_to
  added_same zero l = refl
  added_same (suc p) l = rw (added_same p (omega arith)) (add_same p l (up_to (add_line first second) first p))

  -- the union is the first list, and behind it the lines that it lacks
  added_united : united first second ≡ first ++ chosen_lines (is_new again) second
  unfolding united add_new chosen_lines
  added_united = sym (added_same (length second / 2) (omega arith)) ∙ put_behind (is_new again) second first (length second / 2)

  pub united_size : length (united first second) ≡ length first + 2 * count (length second / 2) (is_new again)
  united_size = rw added_united (simp length-append (omega (arith, chosen_length (is_new again) second)))

  -- the first list in front, and the lines that it lacks at the front of the rest, leave the union in front
  pub united_front : (room : List ℕ)
      → first ++ (chosen_lines (is_new again) second ++ drop (length (chosen_lines (is_new again) second)) (drop (length first) room))
      ≡ united first second ++ drop (length (united first second)) room
  united_front room =
      let new = chosen_lines (is_new again) second in
      rw (added_united, length-append first new, drop-drop (length new) (length first) room)
      (sym (append_assoc first new (drop (length first + length new) room)))
