-- `joined::judge_both` meets its contract. The marks say which stations are in the list, so their judge and the definition's agree. Assumes
-- nothing.
use mathlib.Core.Path.{◌∙◌}
use Rattle.kinds.proofs.Answers.{passed_on}
use Rattle.joined.proofs.Asking.{asked_marked}
use Rattle.joined.proofs.judge_both.Goals as goal

pub returns-in_err-judge_asked : goal.returns-in_err-judge_asked
returns-in_err-judge_asked c =
    let a = c.args in
    record {
      answer = λ away g.
          let first = c.in_err-judge_asked.ensures.answer ∙ asked_marked away a.one.0 a.n 0 a.gone.now c.requires g in
          rw (← first) (passed_on _ _ c.from_residual.ensures.1);
    }

pub returns : goal.returns
returns c =
    let a = c.args in
    record {
      answer = λ away g.
          let first = c.in_ok-judge_asked.ensures.answer ∙ asked_marked away a.one.0 a.n 0 a.gone.now c.requires g in
          rw (← first) (c.judge_asked-2.ensures.answer ∙ asked_marked away a.two.0 a.n 1 a.gone.now c.requires g);
    }
