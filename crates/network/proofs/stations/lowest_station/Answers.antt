-- `network::lowest_station` meets its contract: what the test says of a station is what any test says of which it tells. Assumes nothing.
use Prim.Native.Nat.{ℕ, ◌-◌}
use mathlib.Core.Path.{◌≡◌, sym, ap, ◌∙◌}
use mathlib.Core.Bool.{true, false}
use native.Mathlib.Omega.{arith}
use Rattle.laws.specs.Fold.{first_from}
use Rattle.laws.proofs.Fold.{first_next, first_here, first_none}
use Rattle.network.proofs.stations.lowest_station.Goals as goal

pub loop-v-init : goal.loop-v-init
loop-v-init g c = λ passes told. ap (λ (v : ℕ). first_from passes (λ v. v) c.args.n v (c.args.n - v)) (omega arith)

pub returns-then-test-clause-lowest : goal.returns-then-test-clause-lowest
returns-then-test-clause-lowest g c = λ passes told.
    let l = c.loop-v in
    let e : passes l.v ≡ true = sym (told _ _ c.loop-v-test.true c.test.ensures) ∙ c.if-test.true in
    sym (l.invariant passes told ∙ first_here passes (λ v. v) c.args.n c.args.n l.v c.loop-v-test.true e)

pub loop-v-preserved : goal.loop-v-preserved
loop-v-preserved g c = λ passes told.
    let l = c.loop-v in
    let e : passes l.v ≡ false = sym (told _ _ c.loop-v-test.true c.test.ensures) ∙ c.if-test.false in
    l.invariant passes told ∙ first_next passes (λ v. v) c.args.n c.args.n l.v c.loop-v-test.true e

pub returns-clause-lowest : goal.returns-clause-lowest
returns-clause-lowest g c = λ passes told.
    let l = c.loop-v in
    sym (l.invariant passes told ∙ first_none passes (λ v. v) c.args.n c.args.n l.v (omega (arith, c.loop-v-test.false)))
