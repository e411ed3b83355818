-- The judge of lines, by the lines at the front whose ends are good: the first of them that stood earlier is refused, else the line
-- after them, else none is. Assumes nothing.
use Prim.Native.Nat.{ℕ, ◌+◌, ◌*◌, ◌/◌, ◌<◌, ◌≤◌}
use mathlib.Core.Path.{◌≡◌, refl, sym, ◌∙◌}
use mathlib.Core.Bool.{true, false, ◌&&◌}
use mathlib.Core.List.{List, []}
use native.Mathlib.Omega.{arith}
use borrow.Author.Tests.{lt-ltb}
use lib.Dec.{ltb}
use lib.ListN.{length, take}
use lib.Seq.{get_or-take, length-take-le}
use Rattle.std.specs.Prelude.{Result, Ok, Err}
use Rattle.std.specs.Result.{is_err}
use Rattle.laws.specs.Fold.{first_from, lowest}
use Rattle.laws.proofs.Fold.{first_at, first_last, first_same, lowest_most, lowest_low, lowest_high}
use Rattle.bits.specs.Sets.{is_in}
use Rattle.kinds.specs.Answers.{Answer.refused, answer_of, taken, is_refused}
use Rattle.kinds.specs.declared.Refusal.{Refusal}
use Rattle.network.specs.Lines.{end_one, end_two, network, Proper}
use Rattle.network.specs.Faults.{EndsGood}
use Rattle.network.specs.Judging.{same_ends, stood_before, ends_judged, line_judged, lines_judged}
use Rattle.network.proofs.Judging.{ends_good, line_ends_refused, line_stood, line_taken}
use Rattle.earlier.specs.Earlier.{stood_earlier}
use Rattle.judging.specs.Ends.{bad_ends, good_ends, Marks}

module _ (list n : ℕ) (lines : List ℕ) where
  pub good_most : good_ends list n lines ≤ length lines / 2
  unfolding good_ends
  good_most = lowest_most (bad_ends list n lines) (length lines / 2)

-- What a routine says is refused just where it is an error.
pub err_refused : {A : Type 0} (r : Result A Refusal) → is_err r ≡ is_refused (answer_of r)
err_refused (Ok value) = refl
err_refused (Err r) = refl

-- As many words as have a bit for each of m places say the same of them as all words.
pub part_marks : (m : ℕ) (lines again : List ℕ) (words : ℕ) → m ≤ 64 * words → Marks m lines again → Marks m lines (take words again)
unfolding is_in
part_marks m lines again words h marks = record { exactly = λ p l. rw (get_or-take words again (p / 64) 0 (omega arith)) (marks.exactly p l) }

-- An empty list is proper over any stations.
pub nothing_proper : (m : ℕ) → Proper (network m [])
nothing_proper m = record { one_in = λ p l. absurd (omega arith); two_in = λ p l. absurd (omega arith); apart = λ p l. absurd (omega arith) }

-- The lines at the front.
module _ (list n : ℕ) (lines : List ℕ) (until : ℕ) (is : until ≡ good_ends list n lines) where
  abbrev front : List ℕ
  front = take (2 * until) lines

  good : (p : ℕ) → p < until → bad_ends list n lines p ≡ false
  unfolding good_ends
  good p l = lowest_high (bad_ends list n lines) (length lines / 2) until (omega (arith, is, good_most list n lines)) (omega (arith, is)) p l

  bad : until < length lines / 2 → bad_ends list n lines until ≡ true
  unfolding good_ends
  bad l = rw is (lowest_low (bad_ends list n lines) (length lines / 2) (length lines / 2) (omega arith) (omega (arith, is))).0

  pub front_size : length front ≡ 2 * until
  front_size = length-take-le (2 * until) lines (omega (arith, is, good_most list n lines))

  front_one : (p : ℕ) → p < until → end_one front p ≡ end_one lines p
  front_one p l = get_or-take (2 * until) lines (2 * p) 0 (omega arith)

  front_two : (p : ℕ) → p < until → end_two front p ≡ end_two lines p
  front_two p l = get_or-take (2 * until) lines (2 * p + 1) 0 (omega arith)

  -- their ends are stations, and differ
  pub front_proper : (m : ℕ) → n ≤ m → Proper (network m front)
  front_proper m h =
      record {
        one_in = λ p l. rw (front_one p (omega (arith, front_size))) (omega (arith, (ends p (omega (arith, front_size))).one_in));
        two_in = λ p l. rw (front_two p (omega (arith, front_size))) (omega (arith, (ends p (omega (arith, front_size))).two_in));
        apart = λ p l. rw (front_one p (omega (arith, front_size)), front_two p (omega (arith, front_size))) (ends p (omega (arith, front_size))).apart;
      }
    where
      ends : (p : ℕ) → p < until → EndsGood n (end_one lines p) (end_two lines p)
      ends p l = ends_good list n (end_one lines p) (end_two lines p) p (good p l)

  -- no line stands in an empty list, so one stood earlier where it stood before in the list itself
  front_stood : (p : ℕ) → p < until → stood_earlier [] front p ≡ stood_before lines p (end_one lines p) (end_two lines p)
  unfolding stood_earlier first_from
  front_stood p l =
      rw (front_one p l, front_two p l)
      (first_same (λ b. b) (λ q. same_ends (end_one lines p) (end_two lines p) (end_one front q) (end_two front q)) (λ q. same_ends (end_one lines p) (end_two lines p) (end_one lines q) (end_two lines q)) false p 0 (λ q a b. rw (front_one q (omega arith), front_two q (omega arith))))

  -- what the search for lines that stood earlier says of them
  pub front_marks : (again : List ℕ) → ((p : ℕ) → is_in again p ≡ (ltb p (length front / 2) && stood_earlier [] front p)) → Marks until lines again
  front_marks again found = record { exactly = λ p l. found p ∙ rw (lt-ltb p (length front / 2) (omega (arith, front_size))) (front_stood p l) }

  module _ (again : List ℕ) (marks : Marks until lines again) (first words : ℕ) (enough : until ≤ words) (lowest_is : first ≡ lowest (is_in again) words words) where
    -- a line before the first that stood earlier, with good ends, is taken
    fine : (p : ℕ) → p < until → p < first → is_refused (line_judged list n lines p) ≡ false
    fine p l k =
        rw (← (line_taken list n lines p (end_one lines p) (end_two lines p) refl refl (good p l) (sym (marks.exactly p l) ∙ lowest_high (is_in again) words first (omega (arith, lowest_is, lowest_most (is_in again) words)) (omega (arith, lowest_is)) p k)))

    pub stood_refused : first < until → refused 8 first list ≡ lines_judged list n lines
    unfolding lines_judged
    stood_refused l =
        let stood : is_in again first ≡ true = rw lowest_is (lowest_low (is_in again) words words (omega arith) (omega (arith, lowest_is))).0 in
        let e = line_stood list n lines first (end_one lines first) (end_two lines first) refl refl (good first l) (sym (marks.exactly first l) ∙ stood) in
        e ∙ sym (first_at is_refused (line_judged list n lines) taken (length lines / 2) first (omega (arith, is, good_most list n lines)) (rw (← e)) (λ j k. fine j (omega arith) k))

    pub ends_refused : until ≤ first → until < length lines / 2 → ends_judged list n (end_one lines until) (end_two lines until) until ≡ lines_judged list n lines
    unfolding lines_judged
    ends_refused h l =
        let e = line_ends_refused list n lines until (end_one lines until) (end_two lines until) refl refl (bad l) in
        e ∙ sym (first_at is_refused (line_judged list n lines) taken (length lines / 2) until l (rw (← e) (bad l)) (λ j k. fine j k (omega arith)))

    pub none_refused : until ≤ first → length lines / 2 ≤ until → taken ≡ lines_judged list n lines
    unfolding lines_judged
    none_refused h l = sym (first_last is_refused (line_judged list n lines) taken (length lines / 2) (λ j k. fine j (omega arith) (omega arith)))
