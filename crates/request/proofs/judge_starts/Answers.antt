-- `request::judge_starts` meets its contract. Assumes nothing.
use mathlib.Core.Path.{◌≡◌, sym, ap, ◌∙◌}
use mathlib.Core.Bool.{true, false}
use native.Mathlib.Omega.{arith}
use borrow.Author.Rules.{rules}
use lib.ListN.{length}
use Rattle.laws.proofs.Fold.{first_start, first_next, first_here, first_none}
use Rattle.kinds.proofs.Answers.{passed_on}
use Rattle.kinds.specs.Answers.{taken, is_refused}
use Rattle.request.specs.Judging.{start_judged, starts_judged}
use Rattle.request.proofs.judge_starts.Goals as goal

pub loop-q-init : goal.loop-q-init
unfolding starts_judged
loop-q-init c = (search rules, first_start _ _ _ _)

pub returns-in_err-judge_start : goal.returns-in_err-judge_start
returns-in_err-judge_start c =
    let a = c.args in
    let judge = start_judged a.n a.starts.now in
    let e : is_refused (judge c.loop-q.q) ≡ true = ap is_refused (sym c.in_err-judge_start.ensures.answer) in
    record { answer = passed_on _ _ c.from_residual.ensures.1 ∙ c.in_err-judge_start.ensures.answer ∙ cc (first_here is_refused judge taken (length a.starts.now) c.loop-q.q (omega arith) e) }

pub loop-q-preserved : goal.loop-q-preserved
loop-q-preserved c =
    let a = c.args in
    let judge = start_judged a.n a.starts.now in
    let e : is_refused (judge c.loop-q.q) ≡ false = ap is_refused (sym c.in_ok-judge_start.ensures.answer) in
    (omega arith, cc (first_next is_refused judge taken (length a.starts.now) c.loop-q.q (omega arith) e))

pub returns : goal.returns
returns c =
    let a = c.args in
    let judge = start_judged a.n a.starts.now in
    record { answer = cc (first_none is_refused judge taken (length a.starts.now) c.loop-q.q (omega arith)) }
