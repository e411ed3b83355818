-- THEOREM. Two results that pruning's contract allows are equal, the buffers' contents too.
-- Assumes nothing.
use Prim.Native.Nat.{ℕ}
use mathlib.Core.Path.{◌≡◌, sym, ◌∙◌}
use mathlib.Core.List.{List}
use Rattle.std.specs.Prelude.{Result}
use Rattle.kinds.specs.declared.Refusal.{Refusal}
use Rattle.kinds.proofs.Determined.{answer_determined}
use Rattle.prune.specs.Answers.{PruneAllows}

pub prune_once : {n k : ℕ} {lines starts ranks orders ranks₁ orders₁ ranks₂ orders₂ : List ℕ} {r s : Result ℕ Refusal}
    → PruneAllows n k lines starts ranks orders r ranks₁ orders₁ → PruneAllows n k lines starts ranks orders s ranks₂ orders₂
    → (r ≡ s) × (ranks₁ ≡ ranks₂) × (orders₁ ≡ orders₂)
prune_once {r = r} {s = s} a b =
    let e = a.answer ∙ sym b.answer in
    (answer_determined r s e, a.new_ranks ∙ rw e (sym b.new_ranks), a.new_orders ∙ rw e (sym b.new_orders))
