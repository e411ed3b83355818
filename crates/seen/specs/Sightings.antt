-- A table of sightings, read as the three tables of `Seen`.
-- Only the helpers speak of it. Assumes nothing.
use Rattle.std.specs.Prelude.{List, map}
use Rattle.seen.specs.declared.Sighting.{Sighting}
use Rattle.seen.specs.Tables.{Seen, seen}

-- Of each position the three entries, in one table each.
abbrev pub tables : List Sighting → Seen
tables sightings = seen (map (λ s. s.earliest.0) sightings) (map (λ s. s.parent) sightings) (map (λ s. s.other) sightings)
