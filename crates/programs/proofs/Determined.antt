-- THEOREM. Two results that the contract of `keep_text` or `weak_text` allows are equal, the text's contents too.
-- Assumes nothing.
use Prim.Native.Nat.{ℕ}
use mathlib.Core.Path.{◌≡◌, sym, ◌∙◌}
use mathlib.Core.List.{List}
use Rattle.std.specs.Prelude.{Result}
use Rattle.report.specs.declared.TooShort.{TooShort}
use Rattle.programs.specs.Texts.{TextAllows}

pub text_once : {room : ℕ} {output text text₁ text₂ : List ℕ} {r s : Result ℕ TooShort} → TextAllows room output text r text₁ → TextAllows room output text s text₂
    → (r ≡ s) × (text₁ ≡ text₂)
text_once a b = (a.answer ∙ sym b.answer, a.new_text ∙ sym b.new_text)
