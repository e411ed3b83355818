-- The loop's invariant in `ranks::rank_rounds`: after as many rounds as are done the ranks are the definition's.
use mathlib.Core.Path.{◌≡◌}
use mathlib.Core.List.{[]}
use lib.ListN.{length}
use Rattle.laws.specs.Fold.{up_to}
use Rattle.rule.specs.Rounds.{rounds, next_round}
use Rattle.ranks.proofs.rank_rounds.Given as goal

abbrev pub invariant-loop-done : goal.invariant-loop-done
invariant-loop-done l = (length l.ranks ≡ length l.initial.ranks)
    × (length l.order ≡ l.n)
    × (l.ranks ≡ (up_to (next_round l.n l.lines l.starts) (rounds l.initial.ranks []) l.done).ranks)
