-- THEOREMS. Demand 2's second half, of the check's own answer: "says yes exactly to those rounds and orders that meet the published definition";
-- and a fault is said exactly where it is the plan's first. Assumes nothing.
use Prim.Native.Nat.{ℕ}
use mathlib.Core.Path.{◌≡◌, ap}
use mathlib.Core.List.{List}
use mathlib.Core.Logic.{◌↔◌}
use lib.ListN.{length}
use Rattle.kinds.specs.Answers.{Answer.given, is_refused}
use Rattle.kinds.proofs.Answers.{then_given}
use Rattle.limits.specs.Limits.{plan_short}
use Rattle.plans.specs.Verdicts.{Kind, Verdict, Verdict.accepted, Verdict.faulty}
use Rattle.plans.specs.Checking.{plan_verdict, plan_judged, check_answer}
use Rattle.plans.specs.Checkable.{Checkable}
use Rattle.plans.specs.Plans.{PlanMeets}
use Rattle.plans.specs.Faults.{FirstFault}
use Rattle.plans.proofs.Judging.{plan_good, good_plan}
use Rattle.plans.proofs.Plans.{accepted_meets, meets_accepted, faulty_fault, fault_faulty}

module _ (n k : ℕ) (lines ranks orders : List ℕ) where
  -- a verdict is given just of what may be checked
  check_given : {verdict : Verdict} → (check_answer n k lines ranks orders ≡ given verdict) ↔ (Checkable n k lines ranks orders × (plan_verdict n k lines ranks orders ≡ verdict))
  unfolding check_answer
  check_given {verdict} = (forth, back)
    where
      forth : check_answer n k lines ranks orders ≡ given verdict → Checkable n k lines ranks orders × (plan_verdict n k lines ranks orders ≡ verdict)
      forth e =
          let (j, f) = then_given (plan_judged n k lines (plan_short n k lines (length ranks) (length orders))) (given (plan_verdict n k lines ranks orders)) e in
          (plan_good n k lines ranks orders (ap is_refused j), cc)

      back : Checkable n k lines ranks orders × (plan_verdict n k lines ranks orders ≡ verdict) → check_answer n k lines ranks orders ≡ given verdict
      back (g, e) = rw (good_plan n k lines ranks orders g, e)

  pub check_accepts : (check_answer n k lines ranks orders ≡ given accepted) ↔ (Checkable n k lines ranks orders × PlanMeets n k lines ranks orders)
  check_accepts = (
    λ e. let (g, f) = check_given.0 e in (g, accepted_meets n k lines ranks orders g.sound g.ordered f),
    λ (m : Checkable n k lines ranks orders × PlanMeets n k lines ranks orders). check_given.1 (m.0, meets_accepted n k lines ranks orders m.0.sound m.1),
  )

  pub check_faults : {r : ℕ} {kind : Kind} {place : ℕ}
      → (check_answer n k lines ranks orders ≡ given (faulty r kind place)) ↔ (Checkable n k lines ranks orders × FirstFault n k lines ranks orders r kind place)
  check_faults {r} {kind} {place} = (
    λ e. let (g, f) = check_given.0 e in (g, faulty_fault n k lines ranks orders g.sound g.ordered f),
    λ (m : Checkable n k lines ranks orders × FirstFault n k lines ranks orders r kind place). check_given.1 (m.0, fault_faulty n k lines ranks orders m.0.sound m.1),
  )
