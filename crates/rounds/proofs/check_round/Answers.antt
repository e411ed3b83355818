-- `rounds::check_round` meets its contract. Where B finds no fault, the order has each station once, and every station is placed. Assumes
-- nothing.
use Rattle.plans.specs.Checking.{order_verdict, round_verdict}
use Rattle.plans.specs.Verdicts.{is_faulty}
use Rattle.plans.proofs.Verdicts.{or_faulty, or_next}
use Rattle.plans.proofs.Rounds.{order_each_once}
use Rattle.entries.proofs.Placing.{placed_none}
use Rattle.entries.specs.Answers.{fault_said}
use mathlib.Core.Bool.{true, false}
use mathlib.Core.Path.{◌≡◌, refl, sym, ap, ◌∙◌}
use borrow.Author.Rules.{rules}
use native.Mathlib.Omega.{arith}
use Rattle.rounds.proofs.check_round.Goals as goal

pub check_order-requires : goal.check_order-requires
check_order-requires c = let p = c.requires in (c.args.network.now.sound.within.most, p.0, placed_none c.args.network.now.n c.args.order.now _ (omega (arith, p.1.positions_room)) c.empty_tables.ensures.unplaced)

pub returns-in_err-check_order : goal.returns-in_err-check_order
unfolding round_verdict
returns-in_err-check_order c =
    let a = c.args in
    let e : fault_said c.from_residual.result ≡ order_verdict a.network.now.n a.round.0 a.order.now = search rules in
    let f : is_faulty (order_verdict a.network.now.n a.round.0 a.order.now) ≡ true = sym (ap is_faulty c.in_err-check_order.ensures.verdict) in
    record { verdict = e ∙ sym (or_faulty _ _ f) }

pub check_placed-requires : goal.check_placed-requires
check_placed-requires c =
    let a = c.args in
    let p = c.requires in
    let f : is_faulty (order_verdict a.network.now.n a.round.0 a.order.now) ≡ false = sym (ap is_faulty c.in_ok-check_order.ensures.verdict) in
    rw p.0 (refl, order_each_once a.network.now.n a.round.0 a.order.now p.0 f, c.in_ok-check_order.ensures.placed refl, c.empty_tables.ensures.blank, p.1.trees_room)

pub returns : goal.returns
unfolding round_verdict
returns c =
    let a = c.args in
    let p = c.requires in
    let f : is_faulty (order_verdict a.network.now.n a.round.0 a.order.now) ≡ false = sym (ap is_faulty c.in_ok-check_order.ensures.verdict) in
    record { verdict = (rw p.0 at c.check_placed.ensures.verdict) ∙ sym (or_next _ _ f) }
