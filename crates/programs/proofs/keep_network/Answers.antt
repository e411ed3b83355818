-- `programs::keep_network` meets its contract. Both arms rewrite by what the judge answered; pruning makes the ranks. Assumes nothing.
use Prim.Native.Nat.{◌+◌, ◌*◌, ◌/◌}
use mathlib.Core.Path.{◌≡◌, sym, ap, ◌∙◌}
use mathlib.Core.Bool.{false}
use native.Mathlib.Omega.{arith}
use borrow.Author.Tests.{le-ltb}
use lib.Dec.{ltb}
use lib.ListN.{length}
use Rattle.kinds.specs.Answers.{taken, is_refused, answer_of, refusal_answer}
use Rattle.prune.specs.Pruning.{prune_answer}
use Rattle.request.specs.Judging.{request_judged}
use Rattle.request.proofs.Judging.{request_good}
use Rattle.report.specs.Answers.{keep_short, refused_short}
use Rattle.programs.specs.Keep.{pruned_text, network_text}
use Rattle.programs.proofs.Room.{room_for_all}
use Rattle.programs.proofs.keep_network.Goals as goal
use Rattle.programs.proofs.keep_network.Goals.{In_default}

pub returns-in-Err : goal.returns-in-Err
unfolding network_text pruned_text prune_answer refused_short
returns-in-Err c =
    let a = c.args in
    let w = c.write_refused in
    let j : request_judged a.n a.level.0 a.lines.now a.starts.now false ≡ refusal_answer c.in-Err.refusal = sym c.judge_request.ensures.answer ∙ ap answer_of c.in-Err.is in
    let e = room_for_all a.n a.level.0 a.lines.now a.starts.now ∙ j in
    let room : ltb (length a.text.now) 64 ≡ false = le-ltb (length a.text.now) 64 (omega (arith, c.requires.2)) in
    record { answer = rw e (rw room at w.ensures.answer); text = rw e (rw room at w.ensures.text) }

-- what is known once the judge has taken the request
in_order : (c : In_default) → request_judged c.args.n c.args.level.0 c.args.lines.now c.args.starts.now false ≡ taken
in_order c = sym c.judge_request.ensures.answer ∙ ap answer_of c.in_default.is

pub prune_ranks-kept-requires : goal.prune_ranks-kept-requires
prune_ranks-kept-requires c =
    let a = c.args in
    (request_good a.n a.level.0 a.lines.now a.starts.now false (ap is_refused (in_order (goal.at.prune_ranks-kept-requires c).In_default)), c.requires.0)

pub returns : goal.returns
unfolding network_text pruned_text prune_answer keep_short
returns c =
    let a = c.args in
    let p = c.requires in
    let d = c.prune_ranks-kept in
    let w = c.write_kept in
    let count = length a.lines.now / 2 in
    let e = room_for_all a.n a.level.0 a.lines.now a.starts.now ∙ in_order (goal.at.returns c).In_default in
    let few : ltb 16384 (length a.lines.now) ≡ false = le-ltb 16384 (length a.lines.now) p.1 in
    let room : ltb (length a.text.now) (128 + 64 * count) ≡ false = le-ltb (length a.text.now) (128 + 64 * count) (omega (arith, p.1, p.2)) in
    record { answer = rw (e, ← d.ensures.count, ← d.ensures.ranks) (rw (few, room) at w.ensures.answer); text = rw (e, ← d.ensures.count, ← d.ensures.ranks) (rw (few, room) at w.ensures.text) }
