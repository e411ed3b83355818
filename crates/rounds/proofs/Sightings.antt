-- What is said of the station at a position, by its sighting, is what is said by the tables.
-- Assumes nothing.
use Prim.Native.Nat.{ℕ}
use mathlib.Core.Bool.{false, not, ◌&&◌}
use mathlib.Core.List.{List}
use mathlib.Core.Path.{◌≡◌}
use lib.Dec.{ltb}
use lib.ListN.{get_or, get_or-map}
use Rattle.plans.specs.Verdicts.{Kind.C, Kind.D, fault_if, ◌or_else◌}
use Rattle.seen.specs.declared.Sighting.{Sighting}
use Rattle.seen.specs.Sightings.{tables}
use Rattle.rounds.specs.Tables.{seen_verdict}

abbrev none : Sighting
none = record { earliest = record { 0 = 0 }; parent = false; other = false }

pub seen_here : (i : ℕ) (order : List ℕ) (xs : List Sighting) (j : ℕ)
    → seen_verdict i order (tables xs) j
    ≡ (fault_if (ltb (get_or xs j none).earliest.0 j && not (get_or xs j none).parent) i C (get_or order j 0) or_else fault_if (get_or xs j none).other i D (get_or order j 0))
unfolding seen_verdict
seen_here i order xs j =
    rw (get_or-map (λ (s : Sighting). s.earliest.0) xs j none, get_or-map (λ (s : Sighting). s.parent) xs j none, get_or-map (λ (s : Sighting). s.other) xs j none)
