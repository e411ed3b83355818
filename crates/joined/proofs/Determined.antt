-- THEOREM. Two results that the question's contract allows are equal.
-- Assumes nothing.
use Prim.Native.Nat.{ℕ}
use mathlib.Core.Path.{◌≡◌, sym, ◌∙◌}
use mathlib.Core.List.{List}
use Rattle.std.specs.Prelude.{Result, Bool}
use Rattle.kinds.specs.Answers.{answer_of}
use Rattle.kinds.specs.declared.Refusal.{Refusal}
use Rattle.kinds.proofs.Determined.{answer_determined}
use Rattle.joined.specs.Asking.{joined_answer}

pub joined_once : (n : ℕ) (lines away : List ℕ) (a b : ℕ) {r s : Result Bool Refusal} → answer_of r ≡ joined_answer n lines away a b → answer_of s ≡ joined_answer n lines away a b → r ≡ s
joined_once n lines away a b {r} {s} x y = answer_determined r s (x ∙ sym y)
