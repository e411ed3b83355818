-- The loop's invariant in `cuts::pass_seen`: the station is the same, and what held of the visit at first holds of it now. The measure is how many
-- places are left.
use Prim.Native.Nat.{ℕ, ◌+◌, ◌-◌, ◌≤◌}
use mathlib.Core.Path.{◌≡◌}
use mathlib.Core.Bool.{Bool}
use mathlib.Core.List.{List}
use lib.ListN.{get_or}
use Rattle.cuts.specs.Visits.{Goes}
use Rattle.cuts.proofs.pass_seen.Given as goal

abbrev pub invariant-loop-neighbour : goal.invariant-loop-neighbour
invariant-loop-neighbour l = (l.passing.station.0 ≡ l.initial.passing.station.0) × (get_or l.neighbours.begins.now l.initial.passing.station.0 0 ≤ l.passing.next.0)
    × ((s : List ℕ) (cut₀ cut : List Bool) (d : ℕ) → Goes l.neighbours.begins.now l.neighbours.near.now s l.depths cut₀ cut d l.initial.passing → Goes l.neighbours.begins.now l.neighbours.near.now s l.depths cut₀ cut d l.passing)

abbrev pub decreases-loop-neighbour : goal.decreases-loop-neighbour
decreases-loop-neighbour l = get_or l.neighbours.begins.now (l.initial.passing.station.0 + 1) 0 - l.passing.next.0
