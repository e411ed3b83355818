-- The loop's invariant in `neighbours::count_ends`: the first e line ends are counted.
use Rattle.neighbours.specs.Ranks.{Counted}
use Rattle.neighbours.proofs.count_ends.Given as goal

abbrev pub invariant-loop-end : goal.invariant-loop-end
invariant-loop-end l = Counted l.network.n l.network.lines.now l.end-index l.begins
