-- `limits::is_plan_short` meets its contract. Dividing the room by n asks what multiplying k by n would. Assumes nothing.
use Prim.Native.Nat.{ℕ, ◌*◌, ◌/◌, ◌<◌, ◌≤◌}
use mathlib.Core.Path.{◌≡◌, sym, ◌∙◌}
use native.Mathlib.Decide.{dec_lt}
use native.Mathlib.Omega.{arith}
use native.Mathlib.Nat.{mul-zero, div-lt_iff_lt-mul}
use borrow.Author.Tests.{lt-ltb, le-ltb}
use lib.Dec.{ltb}
use Rattle.limits.specs.Limits.{plan_short}
use Rattle.limits.proofs.is_plan_short.Goals as goal

div_test : (orders n k : ℕ) → 0 < n → ltb (orders / n) k ≡ ltb orders (k * n)
div_test orders n k h = go (dec_lt orders (k * n))
  where
    go : Dec (orders < k * n) → ltb (orders / n) k ≡ ltb orders (k * n)
    go (yes l) = lt-ltb (orders / n) k ((div-lt_iff_lt-mul h).1 l) ∙ sym (lt-ltb orders (k * n) l)
    go (no m) = le-ltb (orders / n) k (not-lt (λ x. m ((div-lt_iff_lt-mul h).0 x))) ∙ sym (le-ltb orders (k * n) (omega arith))
      where
        not-lt : (orders / n < k → ⊥) → k ≤ orders / n
        not-lt f = omega arith

pub returns-then-ranks-lines : goal.returns-then-ranks-lines
unfolding plan_short
returns-then-ranks-lines c = record { short = rw (lt-ltb _ _ c.if-ranks-lines.true) }

pub returns-then-n-eq0 : goal.returns-then-n-eq0
unfolding plan_short
returns-then-n-eq0 c = record { short = rw (le-ltb _ _ c.if-ranks-lines.false, c.if-n-eq0.true, mul-zero c.args.level.0, le-ltb c.args.orders 0 (omega arith)) }

pub returns : goal.returns
unfolding plan_short
returns c =
    let a = c.args in
    let positive : 0 < a.n = omega (arith, c.if-n-eq0.false) in
    record { short = rw (le-ltb _ _ c.if-ranks-lines.false) (div_test a.orders a.n a.level.0 positive) }
