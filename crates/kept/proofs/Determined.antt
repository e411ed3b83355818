-- THEOREM. Two results that copying's contract allows are equal, the room's contents too.
-- Assumes nothing.
use mathlib.Core.Path.{◌≡◌, sym, ◌∙◌}
use mathlib.Core.List.{List}
use Prim.Native.Nat.{ℕ}
use Rattle.std.specs.Prelude.{Result}
use Rattle.kinds.specs.declared.Refusal.{Refusal}
use Rattle.kinds.proofs.Determined.{answer_determined}
use Rattle.kept.specs.Answers.{CopyAllows}

pub copy_once : {lines ranks room room₁ room₂ : List ℕ} {r s : Result ℕ Refusal} → CopyAllows lines ranks room r room₁ → CopyAllows lines ranks room s room₂ → (r ≡ s) × (room₁ ≡ room₂)
copy_once {r = r} {s = s} a b =
    let e = a.answer ∙ sym b.answer in
    (answer_determined r s e, a.new_room ∙ rw e (sym b.new_room))
