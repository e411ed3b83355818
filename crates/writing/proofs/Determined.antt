-- THEOREM. Two results that writing's contract allows are equal, the buffer's contents too.
-- Assumes nothing.
use Prim.Native.Nat.{ℕ}
use mathlib.Core.Path.{◌≡◌, sym, ◌∙◌}
use mathlib.Core.List.{List}
use Rattle.std.specs.Prelude.{Result}
use Rattle.kinds.specs.declared.Refusal.{Refusal}
use Rattle.kinds.proofs.Determined.{answer_determined}
use Rattle.writing.specs.Answers.{WriteAllows}

pub write_once : {n k : ℕ} {lines starts bytes bytes₁ bytes₂ : List ℕ} {r s : Result ℕ Refusal} → WriteAllows n k lines starts bytes r bytes₁ → WriteAllows n k lines starts bytes s bytes₂
    → (r ≡ s) × (bytes₁ ≡ bytes₂)
write_once {r = r} {s = s} a b = (answer_determined r s (a.answer ∙ sym b.answer), a.new_bytes ∙ sym b.new_bytes)
