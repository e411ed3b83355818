-- The loop's invariant in `joined::judge_away`: what is left to judge from j on is the answer, and the list rises below n so far, so that j is at
-- most n.
use Prim.Native.Nat.{ℕ, ◌-◌, ◌<◌, ◌≤◌}
use mathlib.Core.Bool.{false}
use lib.ListN.{length}
use mathlib.Core.Path.{◌≡◌}
use Rattle.laws.specs.Fold.{first_from}
use Rattle.kinds.specs.Answers.{taken, is_refused}
use Rattle.joined.specs.Asking.{away_judged, all_away_judged}
use Rattle.joined.proofs.judge_away.Given as goal

abbrev pub invariant-loop-j : goal.invariant-loop-j
invariant-loop-j l = (l.j ≤ length l.away) × (all_away_judged l.n l.away ≡ first_from is_refused (away_judged l.n l.away) taken l.j (length l.away - l.j)) × ((i : ℕ) → i < l.j → is_refused (away_judged l.n l.away i) ≡ false)
