-- The answer to the joined question is right.
-- Assumes nothing.
use Prim.Native.Nat.{ℕ}
use mathlib.Core.Path.{◌≡◌, refl, sym, ap, ◌∙◌}
use mathlib.Core.Bool.{Bool, true, false, true≢false}
use mathlib.Core.List.{List}
use Rattle.kinds.specs.Answers.{Answer, Answer.given, ◌and_then◌, is_refused}
use Rattle.kinds.proofs.Answers.{then_both, taken_is}
use Rattle.network.specs.Judging.{list_judged}
use Rattle.network.proofs.Sound.{taken_sound, sound_taken}
use Rattle.pieces.specs.Joined.{Joined}
use Rattle.pieces.specs.Away.{is_away}
use Rattle.pieces.specs.Pieces.{one_piece}
use Rattle.joined.specs.Rising.{Question}
use Rattle.joined.specs.Right.{Right}
use Rattle.joined.specs.Asking.{all_away_judged, asked_judged, joined_answer}
use Rattle.joined.proofs.Asking.{taken_rising, rising_taken, asked_remains, remains_asked}
use Rattle.pieces.proofs.Chains.{one_piece_joined, joined_one_piece}

module _ (n : ℕ) (lines away : List ℕ) (a b : ℕ) where
  -- THEOREM. What is not refused may be asked.
  pub taken_question : is_refused (joined_answer n lines away a b) ≡ false → Question n lines away a b
  unfolding joined_answer
  taken_question e =
      let answer : Answer Bool = given (one_piece n lines (is_away away) a b) in
      let (x, e₁) = then_both (list_judged 0 n lines) (all_away_judged n away and_then asked_judged n away 0 a and_then asked_judged n away 1 b and_then answer) e in
      let (y, e₂) = then_both (all_away_judged n away) (asked_judged n away 0 a and_then asked_judged n away 1 b and_then answer) e₁ in
      let (z, e₃) = then_both (asked_judged n away 0 a) (asked_judged n away 1 b and_then answer) e₂ in
      let (w, e₄) = then_both (asked_judged n away 1 b) answer e₃ in
      record {
        sound = taken_sound 0 n lines (taken_is (list_judged 0 n lines) x);
        rising = taken_rising n away y;
        first = asked_remains away a n 0 z;
        second = asked_remains away b n 1 w;
      }

  -- THEOREM. What may be asked is answered, by the pieces.
  pub question_answered : Question n lines away a b → joined_answer n lines away a b ≡ given (one_piece n lines (is_away away) a b)
  unfolding joined_answer
  question_answered q =
      rw (sound_taken 0 n lines q.sound, rising_taken n away q.rising, remains_asked away a n 0 q.first, remains_asked away b n 1 q.second)

  -- THEOREM. The answer is right.
  pub joined_answer_right : Right n lines away a b (joined_answer n lines away a b)
  joined_answer_right =
      record {
        true_joined = λ e. joins (asked (ap is_refused e)) (given_is (sym (question_answered (asked (ap is_refused e))) ∙ e));
        joined_true = λ e c. question_answered (asked e) ∙ ap given (one (asked e) c);
        false_apart = λ e c.
            let q = asked (ap is_refused e) in
            true≢false (sym (one q c) ∙ given_is (sym (question_answered q) ∙ e));
        apart_false = λ e m. question_answered (asked e) ∙ ap given (not_one (asked e) m (one_piece n lines (is_away away) a b) refl);
      }
    where
      asked : is_refused (joined_answer n lines away a b) ≡ false → Question n lines away a b
      asked = taken_question

      given_is : {x y : Bool} → ◌≡◌ {A = Answer Bool} (given x) (given y) → x ≡ y
      given_is e = cc

      joins : Question n lines away a b → one_piece n lines (is_away away) a b ≡ true → Joined n lines (is_away away) a b
      joins q = one_piece_joined n lines (is_away away) q.sound.simple.proper q.first q.second

      one : Question n lines away a b → Joined n lines (is_away away) a b → one_piece n lines (is_away away) a b ≡ true
      one q = joined_one_piece n lines (is_away away) q.sound.simple.proper

      not_one : Question n lines away a b → ¬ Joined n lines (is_away away) a b → (x : Bool) → one_piece n lines (is_away away) a b ≡ x → one_piece n lines (is_away away) a b ≡ false
      not_one q m true e = absurd (m (joins q e))
      not_one q m false e = e
