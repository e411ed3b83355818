-- THEOREM. Two results that the search's contract allows are equal.
-- Assumes nothing.
use mathlib.Core.Path.{◌≡◌, sym, ap, ◌∙◌}
use mathlib.Core.List.{List}
use Prim.Native.Nat.{ℕ}
use Rattle.std.specs.Prelude.{Option, Result, Ok, Err}
use Rattle.kinds.specs.declared.Refusal.{Refusal}
use Rattle.parting.specs.declared.WeakSpot.{WeakSpot}
use Rattle.kinds.proofs.Determined.{refusal_determined}
use Rattle.parting.proofs.Determined.{found_determined}
use Rattle.weakness.specs.Search.{weak_answer}
use Rattle.weakness.specs.Answers.{searched_answer}

-- two answers that are the same in the document's numbers are the same
searched_determined : (x y : Result (Option WeakSpot) Refusal) → searched_answer x ≡ searched_answer y → x ≡ y
searched_determined (Ok x) (Ok y) e = ap Ok (found_determined x y (cc))
searched_determined (Ok x) (Err r) e = cc
searched_determined (Err r) (Ok y) e = cc
searched_determined (Err r) (Err s) e = ap Err (refusal_determined r s (cc) (cc) (cc))

pub search_once : (n k : ℕ) (lines : List ℕ) {r s : Result (Option WeakSpot) Refusal} → searched_answer r ≡ weak_answer n k lines → searched_answer s ≡ weak_answer n k lines → r ≡ s
search_once n k lines {r} {s} a b = searched_determined r s (a ∙ sym b)
