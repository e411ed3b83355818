-- `unite::unite` meets its contract. Lists that are not refused are sound. Assumes nothing.
use mathlib.Core.Path.{sym, ap}
use Rattle.kinds.specs.Answers.{is_refused}
use Rattle.unite.proofs.Judging.{lists_sound}
use Rattle.unite.proofs.unite.Goals as goal

pub unite_lists-requires : goal.unite_lists-requires
unite_lists-requires c = lists_sound c.args.n c.args.first.now c.args.second.now (ap is_refused (sym c.in_ok-judge_lists.ensures.answer))
