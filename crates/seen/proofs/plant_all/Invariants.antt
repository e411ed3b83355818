-- The loop's invariant in `seen::plant_all`: the trees are the definition's after j positions.
use Rattle.seen.specs.Tables.{plant}
use Rattle.seen.specs.Sightings.{tables}
use Rattle.laws.specs.Fold.{up_to}
use lib.ListN.{length}
use mathlib.Core.Path.{◌≡◌}
use Rattle.seen.proofs.plant_all.Given as goal

abbrev pub invariant-loop-j : goal.invariant-loop-j
invariant-loop-j l = (length l.trees ≡ length l.initial.trees) × (l.trees ≡ up_to (plant (tables l.sightings).earliest) l.initial.trees l.j)
