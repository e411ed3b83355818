-- The loop's invariant in `cuts::visit_from`: what holds of the visits that are open (`Open`), said of the depths at which the first began; and the
-- depth is at most 1,024 less the stations without a depth. The measure is twice their number, and the depth.
use Prim.Native.Nat.{ℕ, ◌+◌, ◌*◌, ◌≤◌}
use mathlib.Core.Path.{◌≡◌}
use mathlib.Core.List.{List}
use lib.ListN.{length, set}
use Rattle.cuts.specs.Passes.{unseen}
use Rattle.cuts.specs.Visits.{Open}
use Rattle.cuts.proofs.visit_from.Given as goal

abbrev pub invariant-loop-neighbour : goal.invariant-loop-neighbour
invariant-loop-neighbour l = (length l.waiting ≡ 1024) × (l.depth + unseen l.depths ≤ 1024)
    × ((s : List ℕ) (a : ℕ) → l.initial.depths ≡ set s a 1 → l.initial.visit.station.0 ≡ a → Open l.neighbours.begins.now l.neighbours.near.now s l.initial.cut a l.waiting l.depths l.cut l.depth l.visit)

abbrev pub decreases-loop-neighbour : goal.decreases-loop-neighbour
decreases-loop-neighbour l = 2 * unseen l.depths + l.depth
