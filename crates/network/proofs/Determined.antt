-- THEOREM. Two results that the contract of `judge` or `judge_list` allows are equal.
-- Assumes nothing.
use Prim.Native.Nat.{ℕ}
use mathlib.Core.Path.{◌≡◌, sym, ◌∙◌}
use mathlib.Core.List.{List}
use Rattle.std.specs.Prelude.{Result}
use Rattle.kinds.specs.Answers.{answer_of}
use Rattle.kinds.specs.declared.Refusal.{Refusal}
use Rattle.kinds.proofs.Determined.{answer_determined}
use Rattle.network.specs.Judging.{list_judged}

pub judge_once : (list n : ℕ) (lines : List ℕ) {r s : Result (Unit {0}) Refusal} → answer_of r ≡ list_judged list n lines → answer_of s ≡ list_judged list n lines → r ≡ s
judge_once list n lines {r} {s} a b = answer_determined r s (a ∙ sym b)
