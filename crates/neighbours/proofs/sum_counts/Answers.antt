-- `neighbours::sum_counts` meets its contract. Assumes nothing.
use Prim.Native.Nat.{ℕ, ◌+◌}
use mathlib.Core.Path.{sym, subst}
use lib.ListN.{set}
use Rattle.neighbours.specs.Ranks.{Summed}
use Rattle.neighbours.proofs.Ranks.{sound_ends, summed_none, summed_next, below_first, below_next, below_most}
use native.Mathlib.Omega.{arith}
use Rattle.neighbours.proofs.sum_counts.Goals as goal

pub loop-v-init : goal.loop-v-init
loop-v-init c = (summed_none c.args.network.now.n c.args.network.now.lines.now c.args.begins.now c.requires, sym (below_first c.args.network.now.lines.now), omega arith)

pub overflow_add-sum : goal.overflow_add-sum
overflow_add-sum c =
    let l = c.loop-v in
    omega (arith, l.invariant.1, l.invariant.0.counts l.v c.loop-v-test.true (omega arith), below_next c.args.network.now.lines.now l.v, below_most c.args.network.now.lines.now (l.v + 1), (sound_ends c.args.network.now.n c.args.network.now.lines.now c.args.network.now.sound).few)

pub loop-v-preserved : goal.loop-v-preserved
loop-v-preserved c =
    let l = c.loop-v in (
      subst (λ (x : ℕ). Summed c.args.network.now.n c.args.network.now.lines.now (l.v + 1) (set l.begins (l.v + 1) x)) (sym l.invariant.1) (summed_next c.args.network.now.n c.args.network.now.lines.now l.v l.begins c.loop-v-test.true l.invariant.0),
      omega (arith, l.invariant.1, l.invariant.0.counts l.v c.loop-v-test.true (omega arith), below_next c.args.network.now.lines.now l.v),
      omega (arith, c.loop-v-test.true),
    )
