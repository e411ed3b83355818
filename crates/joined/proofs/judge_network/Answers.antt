-- `joined::judge_network` meets its contract. A network that is not refused has at most 1,024 stations, as `judge_away` asks. Assumes
-- nothing.
use mathlib.Core.Path.{sym}
use Rattle.network.proofs.Sound.{taken_sound}
use Rattle.joined.proofs.judge_network.Goals as goal

pub judge_away-requires : goal.judge_away-requires
judge_away-requires c = (taken_sound 0 c.args.n c.args.lines.now (sym c.in_ok-judge.ensures.answer)).within.most
