-- What the joined question's answer says.
-- Assumes nothing.
use Rattle.std.specs.Prelude.{ℕ, ◌≡◌, Bool, true, false, List}
use Rattle.kinds.specs.Answers.{Answer, Answer.given, is_refused}
use Rattle.pieces.specs.Joined.{Joined}
use Rattle.pieces.specs.Away.{is_away}

-- An answer that is not a refusal is true just where the two are joined, and false just where they are not.
pub record Right (n : ℕ) (lines away : List ℕ) (a b : ℕ) (answer : Answer Bool) : Type 0 where
  pub true_joined : answer ≡ given true → Joined n lines (is_away away) a b
  pub joined_true : is_refused answer ≡ false → Joined n lines (is_away away) a b → answer ≡ given true
  pub false_apart : answer ≡ given false → ¬ Joined n lines (is_away away) a b
  pub apart_false : is_refused answer ≡ false → ¬ Joined n lines (is_away away) a b → answer ≡ given false
