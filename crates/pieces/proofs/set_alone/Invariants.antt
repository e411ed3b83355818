-- The loop's invariant in `pieces::set_alone`: the first v entries are their own.
use mathlib.Core.List.{◌++◌}
use mathlib.Core.Path.{◌≡◌}
use lib.ListN.{length, drop}
use Rattle.pieces.specs.Pieces.{alone}
use Rattle.pieces.proofs.set_alone.Given as goal

abbrev pub invariant-loop-v : goal.invariant-loop-v
invariant-loop-v l = (length l.pieces ≡ length l.initial.pieces) × (l.pieces ≡ alone l.v ++ drop l.v l.initial.pieces)
