-- The loop's invariant in `request::judge_starts`: what is left to judge from q on is the answer.
use Prim.Native.Nat.{◌-◌, ◌≤◌}
use mathlib.Core.Path.{◌≡◌}
use lib.ListN.{length}
use Rattle.laws.specs.Fold.{first_from}
use Rattle.kinds.specs.Answers.{taken, is_refused}
use Rattle.request.specs.Judging.{start_judged, starts_judged}
use Rattle.request.proofs.judge_starts.Given as goal

abbrev pub invariant-loop-q : goal.invariant-loop-q
invariant-loop-q l = (l.q ≤ length l.starts) × (starts_judged l.n l.starts ≡ first_from is_refused (start_judged l.n l.starts) taken l.q (length l.starts - l.q))
