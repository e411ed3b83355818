-- THEOREM. Two results that the check's contract allows are equal.
-- Assumes nothing.
use Prim.Native.Nat.{ℕ}
use mathlib.Core.Path.{◌≡◌, sym, ap, ◌∙◌}
use mathlib.Core.List.{List}
use Rattle.std.specs.Prelude.{Result, Ok, Err}
use Rattle.kinds.specs.declared.Refusal.{Refusal}
use Rattle.entries.specs.declared.Verdict.{Verdict}
use Rattle.kinds.proofs.Determined.{refusal_determined}
use Rattle.entries.proofs.Determined.{verdict_determined}
use Rattle.plans.specs.Checking.{check_answer}
use Rattle.forests.specs.Answers.{checked_answer}

-- two answers that are the same in the document's letters and numbers are the same
checked_determined : (a b : Result Verdict Refusal) → checked_answer a ≡ checked_answer b → a ≡ b
checked_determined (Ok v) (Ok w) e = ap Ok (verdict_determined v w (cc))
checked_determined (Ok v) (Err r) e = cc
checked_determined (Err r) (Ok v) e = cc
checked_determined (Err r) (Err s) e = ap Err (refusal_determined r s (cc) (cc) (cc))

pub check_once : (n k : ℕ) (lines ranks orders : List ℕ) {r s : Result Verdict Refusal} → checked_answer r ≡ check_answer n k lines ranks orders → checked_answer s ≡ check_answer n k lines ranks orders → r ≡ s
check_once n k lines ranks orders {r} {s} a b = checked_determined r s (a ∙ sym b)
