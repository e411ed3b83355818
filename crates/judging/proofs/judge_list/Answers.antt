-- `judging::judge_list` meets its contract: sizes that are not refused are within the limits. Assumes nothing.
use mathlib.Core.Path.{sym, ap}
use Rattle.kinds.specs.Answers.{is_refused}
use Rattle.kinds.specs.Refusals.{list_number}
use Rattle.limits.proofs.Limits.{stations_good, length_good}
use Rattle.judging.proofs.judge_list.Goals as goal

pub judge_lines-requires : goal.judge_lines-requires
judge_lines-requires c = (
  (stations_good c.args.n (ap is_refused (sym c.in_ok-judge_stations.ensures.answer))).1,
  (length_good (list_number c.args.list) c.args.lines.now (ap is_refused (sym c.in_ok-judge_length.ensures.answer))).1,
)
