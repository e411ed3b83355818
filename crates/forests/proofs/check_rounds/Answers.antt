-- `forests::check_rounds` meets its contract. Assumes nothing.
use Rattle.plans.specs.Verdicts.{Verdict, Verdict.accepted, is_faulty}
use Rattle.plans.specs.Orders.{order_of}
use Rattle.plans.specs.Checking.{round_verdict, rounds_verdict}
use Rattle.entries.specs.Answers.{fault_said}
use Rattle.laws.proofs.Fold.{first_start, first_next, first_here, first_none}
use lib.ListN.{take, drop}
use native.Mathlib.Nat.{add-sub_cancel_left}
use mathlib.Core.Bool.{true, false}
use mathlib.Core.Path.{◌≡◌, sym, ap, ◌∙◌}
use Prim.Native.Nat.{ℕ, ◌+◌, ◌*◌, ◌-◌}
use borrow.Author.Rules.{rules}
use native.Mathlib.Omega.{arith}
use Rattle.forests.proofs.check_rounds.Goals as goal

pub loop-i-init : goal.loop-i-init
unfolding rounds_verdict
loop-i-init c = (c.requires.2, first_start _ _ _ _)

pub returns-in_err-check_round : goal.returns-in_err-check_round
unfolding order_of
returns-in_err-check_round c =
    let a = c.args in
    let n = a.network.now.n in
    let find : ℕ → Verdict = λ j. round_verdict n a.network.now.lines.now a.ranks.now (j + 1) (order_of n a.orders.now j) in
    let l = c.loop-i in
    let part : take (l.i * n + n - l.i * n) (drop (l.i * n) a.orders.now) ≡ order_of n a.orders.now l.i = simp add-sub_cancel_left in
    let said = c.in_err-check_round.ensures.verdict ∙ ap (round_verdict n a.network.now.lines.now a.ranks.now (l.i + 1)) part in
    let passed : fault_said c.from_residual.result ≡ round_verdict n a.network.now.lines.now a.ranks.now (l.i + 1) (take (l.i * n + n - l.i * n) (drop (l.i * n) a.orders.now)) = search rules in
    let f : is_faulty (find l.i) ≡ true = sym (ap is_faulty said) in
    record { verdict = passed ∙ (ap (round_verdict n a.network.now.lines.now a.ranks.now (l.i + 1)) part ∙ sym (l.invariant.1 ∙ first_here is_faulty find accepted a.level.0 l.i (omega (arith, c.loop-i-test.true)) f)) }

pub loop-i-preserved : goal.loop-i-preserved
unfolding order_of
loop-i-preserved c =
    let a = c.args in
    let n = a.network.now.n in
    let find : ℕ → Verdict = λ j. round_verdict n a.network.now.lines.now a.ranks.now (j + 1) (order_of n a.orders.now j) in
    let l = c.loop-i in
    let part : take (l.i * n + n - l.i * n) (drop (l.i * n) a.orders.now) ≡ order_of n a.orders.now l.i = simp add-sub_cancel_left in
    let said = c.in_ok-check_round.ensures.verdict ∙ ap (round_verdict n a.network.now.lines.now a.ranks.now (l.i + 1)) part in
    let f : is_faulty (find l.i) ≡ false = sym (ap is_faulty said) in
    let r = l.invariant.0 in (
      record { positions_room = omega (arith, r.positions_room); sightings_room = omega (arith, r.sightings_room); trees_room = omega (arith, r.trees_room) },
      l.invariant.1 ∙ first_next is_faulty find accepted a.level.0 l.i (omega (arith, c.loop-i-test.true)) f,
    )

pub returns : goal.returns
returns c =
    record {
      verdict = (let a = c.args in
          let n = a.network.now.n in
          sym (c.loop-i.invariant.1 ∙ first_none is_faulty (λ (j : ℕ). round_verdict n a.network.now.lines.now a.ranks.now (j + 1) (order_of n a.orders.now j)) accepted a.level.0 c.loop-i.i (omega (arith, c.loop-i-test.false))));
    }
