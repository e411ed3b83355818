-- `joined::judge_away` meets its contract. Assumes nothing.
use mathlib.Core.Bool.{true, false}
use mathlib.Core.Path.{◌≡◌, sym, ap, ◌∙◌}
use native.Mathlib.Omega.{arith}
use borrow.Author.Count.{below_more}
use borrow.Author.Rules.{rules}
use lib.ListN.{length}
use Rattle.laws.proofs.Fold.{first_start, first_next, first_here, first_none}
use Rattle.kinds.proofs.Answers.{passed_on}
use Rattle.kinds.specs.Answers.{taken, is_refused}
use Rattle.joined.specs.Asking.{away_judged, all_away_judged}
use Rattle.joined.proofs.Asking.{few_risen}
use Rattle.joined.proofs.judge_away.Goals as goal

pub loop-j-init : goal.loop-j-init
unfolding all_away_judged
loop-j-init c = (search rules, first_start _ _ _ _, λ i h. absurd (omega arith))

pub overflow_cast-j : goal.overflow_cast-j
overflow_cast-j c = omega (arith, few_risen c.args.n c.args.away.now c.loop-j.j c.loop-j.invariant.2)

pub returns-in_err-judge_away_at : goal.returns-in_err-judge_away_at
returns-in_err-judge_away_at c =
    let l = c.loop-j in
    let a = c.args in
    let judge = away_judged a.n a.away.now in
    let e : is_refused (judge l.j) ≡ true = ap is_refused (sym c.in_err-judge_away_at.ensures.answer) in
    record { answer = passed_on _ _ c.from_residual.ensures.1 ∙ c.in_err-judge_away_at.ensures.answer ∙ cc (first_here is_refused judge taken (length a.away.now) l.j (omega arith) e) }

pub loop-j-preserved : goal.loop-j-preserved
loop-j-preserved c =
    let l = c.loop-j in
    let a = c.args in
    let judge = away_judged a.n a.away.now in
    let e : is_refused (judge l.j) ≡ false = ap is_refused (sym c.in_ok-judge_away_at.ensures.answer) in
    (omega arith, cc (first_next is_refused judge taken (length a.away.now) l.j (omega arith) e), below_more (λ i. is_refused (judge i) ≡ false) l.j l.invariant.2 e)

pub returns : goal.returns
returns c =
    let l = c.loop-j in
    let a = c.args in
    let judge = away_judged a.n a.away.now in
    record { answer = cc (first_none is_refused judge taken (length a.away.now) l.j (omega arith)) }
