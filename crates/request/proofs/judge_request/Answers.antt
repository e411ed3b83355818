-- `request::judge_request` meets its contract. Once the sizes are right, judging the list is judging its lines. Assumes nothing.
use mathlib.Core.Path.{◌≡◌, sym, ap, ◌∙◌}
use mathlib.Core.Bool.{false}
use native.Mathlib.Omega.{arith}
use Rattle.kinds.specs.Answers.{is_refused}
use Rattle.kinds.proofs.Answers.{passed_on}
use Rattle.request.specs.Judging.{sizes_judged, request_judged}
use Rattle.request.proofs.Judging.{sizes_good, sized_lines}
use Rattle.request.proofs.judge_request.Goals as goal
use Rattle.request.proofs.judge_request.Goals.{In_ok-judge_sizes}

-- the sizes are not refused
passed : (c : In_ok-judge_sizes) → is_refused (sizes_judged c.args.n c.args.level.0 c.args.lines.now c.args.starts.now c.args.short) ≡ false
passed c = ap is_refused (sym c.in_ok-judge_sizes.ensures.answer)

pub returns-in_err-judge_list : goal.returns-in_err-judge_list
unfolding request_judged
returns-in_err-judge_list c =
    let a = c.args in
    let e = passed (goal.at.returns-in_err-judge_list c).In_ok-judge_sizes in
    let said = c.in_err-judge_list.ensures.answer ∙ sized_lines a.n a.level.0 a.lines.now a.starts.now a.short e in
    record { answer = rw (← c.in_ok-judge_sizes.ensures.answer, ← said) (passed_on _ _ c.from_residual-in_err-judge_list.ensures.1) }

pub judge_starts-requires : goal.judge_starts-requires
judge_starts-requires c =
    let a = c.args in
    let good = sizes_good a.n a.level.0 a.lines.now a.starts.now a.short (passed (goal.at.judge_starts-requires c).In_ok-judge_sizes) in
    omega (arith, good.starts_count, good.most)

pub returns : goal.returns
unfolding request_judged
returns c =
    let a = c.args in
    let e = passed (goal.at.returns c).In_ok-judge_sizes in
    record { answer = rw (← c.in_ok-judge_sizes.ensures.answer, ← (c.in_ok-judge_list.ensures.answer ∙ sized_lines a.n a.level.0 a.lines.now a.starts.now a.short e)) c.judge_starts.ensures.answer }
