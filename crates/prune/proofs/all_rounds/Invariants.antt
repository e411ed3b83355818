-- The loop's invariant in `prune::all_rounds`: after as many rounds as are done the ranks are the definition's, and its orders fill their
-- parts.
use Prim.Native.Nat.{◌*◌}
use mathlib.Core.Path.{◌≡◌}
use mathlib.Core.List.{[], ◌++◌}
use lib.ListN.{length, drop}
use Rattle.laws.specs.Fold.{up_to}
use Rattle.rule.specs.Rounds.{rounds, next_round}
use Rattle.prune.proofs.all_rounds.Given as goal

abbrev pub invariant-loop-done : goal.invariant-loop-done
invariant-loop-done l = (length l.ranks ≡ length l.initial.ranks)
    × (length l.orders ≡ length l.initial.orders)
    × (length (up_to (next_round l.n l.lines l.starts) (rounds l.initial.ranks []) l.done).orders ≡ l.done * l.n)
    × (l.orders ≡ (up_to (next_round l.n l.lines l.starts) (rounds l.initial.ranks []) l.done).orders ++ drop (l.done * l.n) l.initial.orders)
    × (l.ranks ≡ (up_to (next_round l.n l.lines l.starts) (rounds l.initial.ranks []) l.done).ranks)
