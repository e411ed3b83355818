-- `prune::prune` meets its contract. A refused request changes nothing; one that is in order has the room that it needs, and the front of
-- each buffer is lent to the rounds. Assumes nothing.
-- what is known once the request was not refused
use Prim.Native.Nat.{◌*◌, ◌/◌}
use mathlib.Core.Path.{◌≡◌, sym, ap, ◌∙◌}
use native.Mathlib.Omega.{arith}
use native.Mathlib.Nat.{mul-le-mul}
use lib.Seq.{length-take-le}
use lib.ListN.{length}
use Rattle.kinds.specs.Answers.{Answer.given, taken}
use Rattle.limits.specs.Limits.{plan_short}
use Rattle.request.specs.Judging.{request_judged}
use Rattle.request.specs.Requests.{Request}
use Rattle.request.proofs.Judging.{request_good}
use Rattle.prune.specs.Pruning.{prune_answer}
use Rattle.rule.specs.Rounds.{Rounds}
use Rattle.kept.proofs.After.{written}
use Rattle.limits.proofs.Room.{room_enough}
use Rattle.ranks.proofs.Asked.{request_scannable, request_in_order}
use Rattle.prune.proofs.prune.Goals as goal
use Rattle.prune.proofs.prune.Goals.{In_ok-judge_request}

in_order : (c : In_ok-judge_request)
    → (request_judged c.args.n c.args.level.0 c.args.lines.now c.args.starts.now
    (plan_short c.args.n c.args.level.0 c.args.lines.now (length c.args.ranks.now) (length c.args.orders.now)) ≡ taken)
    × Request c.args.n c.args.level.0 c.args.lines.now c.args.starts.now
    (plan_short c.args.n c.args.level.0 c.args.lines.now (length c.args.ranks.now) (length c.args.orders.now))
in_order c =
    let a = c.args in
    let short = plan_short a.n a.level.0 a.lines.now (length a.ranks.now) (length a.orders.now) in
    let e : request_judged a.n a.level.0 a.lines.now a.starts.now short ≡ taken = rw (← c.is_plan_short-short.ensures.short) (sym c.in_ok-judge_request.ensures.answer) in
    (e, request_good a.n a.level.0 a.lines.now a.starts.now short (rw e))

pub overflow_mul-size : goal.overflow_mul-size
overflow_mul-size c = let r = (in_order (goal.at.overflow_mul-size c).In_ok-judge_request).1 in omega (arith, mul-le-mul {n₁ = c.args.level.0} {m₁ = c.args.n} {n₂ = 16} {m₂ = 1024} r.sized.most r.sized.within.most)

pub slice_bounds-run-end : goal.slice_bounds-run-end
slice_bounds-run-end c = let r = (in_order (goal.at.slice_bounds-run-end c).In_ok-judge_request).1 in (room_enough _ _ _ _ _ r.sized.room).0

pub slice_bounds-run-end-2 : goal.slice_bounds-run-end-2
slice_bounds-run-end-2 c = let a = c.args in let r = (in_order (goal.at.slice_bounds-run-end-2 c).In_ok-judge_request).1 in sym (length-take-le (length a.lines.now / 2) a.ranks.now (room_enough _ _ _ _ _ r.sized.room).0)

pub slice_bounds-run-end-3 : goal.slice_bounds-run-end-3
slice_bounds-run-end-3 c = let r = (in_order (goal.at.slice_bounds-run-end-3 c).In_ok-judge_request).1 in (room_enough _ _ _ _ _ r.sized.room).1

pub slice_bounds-run-end-4 : goal.slice_bounds-run-end-4
slice_bounds-run-end-4 c = let a = c.args in let r = (in_order (goal.at.slice_bounds-run-end-4 c).In_ok-judge_request).1 in sym (length-take-le (a.level.0 * a.n) a.orders.now (room_enough _ _ _ _ _ r.sized.room).1)

pub run-kept-requires : goal.run-kept-requires
run-kept-requires c =
    let a = c.args in
    let r = (in_order (goal.at.run-kept-requires c).In_ok-judge_request).1 in
    let w = r.sized.within in
    let (lr, lo) = room_enough a.n a.level.0 a.lines.now (length a.ranks.now) (length a.orders.now) r.sized.room in (
      request_scannable r (length-take-le (length a.lines.now / 2) a.ranks.now lr),
      request_in_order r,
      length-take-le (a.level.0 * a.n) a.orders.now lo,
    )

pub returns : goal.returns
unfolding prune_answer
returns c =
    let a = c.args in
    let d = c.run-kept in
    let (e, r) = in_order (goal.at.returns c).In_ok-judge_request in
    let (lr, lo) = room_enough a.n a.level.0 a.lines.now (length a.ranks.now) (length a.orders.now) r.sized.room in
    let size = length a.lines.now / 2 in
    let span = a.level.0 * a.n in
    record {
      allowed = record {
        answer = rw e (ap given d.ensures.count);
        new_ranks = written d.result _ a.ranks.now d.new.ranks size (ap (λ (x : Rounds). x.ranks) d.ensures.rounds) (d.auto.ranks ∙ length-take-le size a.ranks.now lr);
        new_orders = written d.result _ a.orders.now d.new.orders span (ap (λ (x : Rounds). x.orders) d.ensures.rounds) (d.auto.orders ∙ length-take-le span a.orders.now lo);
      };
    }
