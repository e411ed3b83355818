-- THEOREM. Two results that uniting's contract allows are equal, the room's contents too.
-- Assumes nothing.
use Prim.Native.Nat.{ℕ}
use mathlib.Core.Path.{◌≡◌, sym, ◌∙◌}
use mathlib.Core.List.{List}
use Rattle.std.specs.Prelude.{Result}
use Rattle.kinds.specs.declared.Refusal.{Refusal}
use Rattle.kinds.proofs.Determined.{answer_determined}
use Rattle.unite.specs.Answers.{UniteAllows}

pub unite_once : {n : ℕ} {first second room room₁ room₂ : List ℕ} {r s : Result ℕ Refusal} → UniteAllows n first second room r room₁ → UniteAllows n first second room s room₂
    → (r ≡ s) × (room₁ ≡ room₂)
unite_once {r = r} {s = s} a b =
    let e = a.answer ∙ sym b.answer in
    (answer_determined r s e, a.new_room ∙ rw e (sym b.new_room))
