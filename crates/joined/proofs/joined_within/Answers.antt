-- `joined::joined_within` meets its contract. What the judge takes is sound and rises, so the first n marks and entries can be lent on.
-- Assumes nothing.
use mathlib.Core.Path.{sym, ◌∙◌}
use native.Mathlib.Omega.{arith}
use lib.Seq.{length-take-le}
use Rattle.network.specs.Judging.{list_judged}
use Rattle.network.specs.Faults.{Sound}
use Rattle.pieces.specs.Away.{Rising}
use Rattle.joined.specs.Asking.{all_away_judged, joined_answer}
use Rattle.kinds.proofs.Answers.{then_refusal, then_taken, passed_on}
use Rattle.pieces.proofs.Away.{unmarked_part}
use Rattle.joined.proofs.Asking.{network_good}
use Rattle.joined.proofs.joined_within.Goals as goal
use Rattle.joined.proofs.joined_within.Goals.{In_ok-judge_network}

-- the network is sound, and the taken-away list rises
good : (c : In_ok-judge_network) → Sound c.args.n c.args.lines.now × Rising c.args.n c.args.away.now
good c = network_good c.args.n c.args.lines.now c.args.away.now (sym c.in_ok-judge_network.ensures.answer)

pub returns-in_err-judge_network : goal.returns-in_err-judge_network
unfolding joined_answer
returns-in_err-judge_network c =
    let a = c.args in
    record { answer = passed_on _ _ c.from_residual.ensures.1 ∙ then_refusal (list_judged 0 a.n a.lines.now) (all_away_judged a.n a.away.now) _ (sym c.in_err-judge_network.ensures.answer) }

pub invariant_of-network : goal.invariant_of-network
invariant_of-network c = record { sound = (good (goal.at.invariant_of-network c).In_ok-judge_network).0 }

pub slice_bounds-joined_among-end : goal.slice_bounds-joined_among-end
slice_bounds-joined_among-end c = let most = (good (goal.at.slice_bounds-joined_among-end c).In_ok-judge_network).0.within.most in omega arith

pub slice_bounds-joined_among-end-2 : goal.slice_bounds-joined_among-end-2
slice_bounds-joined_among-end-2 c = let most = (good (goal.at.slice_bounds-joined_among-end-2 c).In_ok-judge_network).0.within.most in sym (length-take-le c.args.n c.args.gone.now (omega arith))

pub slice_bounds-joined_among-end-3 : goal.slice_bounds-joined_among-end-3
slice_bounds-joined_among-end-3 c = let most = (good (goal.at.slice_bounds-joined_among-end-3 c).In_ok-judge_network).0.within.most in omega arith

pub slice_bounds-joined_among-end-4 : goal.slice_bounds-joined_among-end-4
slice_bounds-joined_among-end-4 c = let most = (good (goal.at.slice_bounds-joined_among-end-4 c).In_ok-judge_network).0.within.most in sym (length-take-le c.args.n c.args.pieces.now (omega arith))

pub joined_among-requires : goal.joined_among-requires
joined_among-requires c =
    let a = c.args in
    let (sound, rising) = good (goal.at.joined_among-requires c).In_ok-judge_network in
    let most = sound.within.most in (
      rising,
      length-take-le a.n a.gone.now (omega arith),
      unmarked_part a.n a.gone.now (omega arith) c.requires.1,
      length-take-le a.n a.pieces.now (omega arith),
    )

pub returns : goal.returns
unfolding joined_answer
returns c =
    let a = c.args in
    record { answer = c.joined_among.ensures.answer ∙ then_taken (list_judged 0 a.n a.lines.now) (all_away_judged a.n a.away.now) _ (sym c.in_ok-judge_network.ensures.answer) }
