-- `joined::joined_among` meets its contract. What the judge refuses, the definition refuses; what it takes is answered by the pieces.
-- Assumes nothing.
use mathlib.Core.Path.{◌≡◌, sym, ap, ◌∙◌}
use native.Mathlib.Omega.{arith}
use Rattle.kinds.specs.Answers.{Answer.given, taken, ◌and_then◌}
use Rattle.joined.specs.Asking.{asked_judged}
use Rattle.kinds.proofs.Answers.{then_refusal, then_taken, passed_on}
use Rattle.joined.proofs.Asking.{both_remain}
use Rattle.joined.proofs.joined_among.Goals as goal
use Rattle.joined.proofs.joined_among.Goals.{In_ok-judge_both}

pub take_away-requires : goal.take_away-requires
take_away-requires c = let r = c.requires.0 in (record { below = λ j l. omega (arith, r.below j l); above = r.above }, c.requires.2)

-- neither station was refused
taken_both : (c : In_ok-judge_both) → asked_judged c.args.network.now.n c.args.away.now 0 c.args.one.0 and_then asked_judged c.args.network.now.n c.args.away.now 1 c.args.two.0 ≡ taken
taken_both c = sym (c.in_ok-judge_both.ensures.answer c.args.away.now c.take_away.ensures.gone)

pub returns-in_err-judge_both : goal.returns-in_err-judge_both
returns-in_err-judge_both c =
    let a = c.args in
    let first = asked_judged a.network.now.n a.away.now 0 a.one.0 in
    let second = asked_judged a.network.now.n a.away.now 1 a.two.0 in
    let e = c.in_err-judge_both.ensures.answer a.away.now c.take_away.ensures.gone in
    record { answer = passed_on _ _ c.from_residual.ensures.1 ∙ then_refusal first second _ (sym e) }

pub is_one_piece-requires : goal.is_one_piece-requires
is_one_piece-requires c =
    let a = c.args in
    let (x, y) = both_remain a.network.now.n a.away.now a.one.0 a.two.0 (taken_both (goal.at.is_one_piece-requires c).In_ok-judge_both) in
    (omega arith, omega arith, x.station, y.station)

pub returns : goal.returns
returns c =
    let a = c.args in
    let first = asked_judged a.network.now.n a.away.now 0 a.one.0 in
    let second = asked_judged a.network.now.n a.away.now 1 a.two.0 in
    record { answer = ap given (c.is_one_piece.ensures.piece a.away.now c.take_away.ensures.gone) ∙ then_taken first second _ (taken_both (goal.at.returns c).In_ok-judge_both) }
