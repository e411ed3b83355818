-- `forests::check` meets its contract. What is not refused is a sound list with room for a plan, so it can be looked at. Assumes nothing.
use Rattle.plans.proofs.Judging.{plan_good}
use Rattle.plans.specs.Checkable.{Checkable}
use Rattle.plans.specs.Checking.{plan_judged}
use Rattle.limits.specs.Limits.{plan_short}
use Rattle.kinds.specs.Answers.{taken}
use lib.ListN.{length}
use mathlib.Core.Path.{◌≡◌, sym}
use Rattle.forests.proofs.check.Goals as goal
use Rattle.forests.proofs.check.Goals.{In_ok-judge_plan}

-- what is not refused
good : (c : In_ok-judge_plan) → Checkable c.args.n c.args.level.0 c.args.lines.now c.args.ranks.now c.args.orders.now
good c =
    let a = c.args in
    let e : plan_judged a.n a.level.0 a.lines.now (plan_short a.n a.level.0 a.lines.now (length a.ranks.now) (length a.orders.now)) ≡ taken = rw (← c.is_plan_short-short.ensures.short) (sym c.in_ok-judge_plan.ensures.answer) in
    plan_good a.n a.level.0 a.lines.now a.ranks.now a.orders.now (rw e)

pub invariant_of-network : goal.invariant_of-network
invariant_of-network c = record { sound = (good (goal.at.invariant_of-network c).In_ok-judge_plan).sound }

pub check_plan-requires : goal.check_plan-requires
check_plan-requires c =
    let g = good (goal.at.check_plan-requires c).In_ok-judge_plan in
    (g.most, g.ordered)
