-- Going through the lines of a list by their places.
-- Assumes nothing.
use Rattle.std.specs.Prelude.{◌+◌, ◌<◌, ◌≤◌, ◌≡◌, Option, MatchOption}
use Rattle.kinds.specs.declared.Place.{Place}
use Rattle.network.specs.declared.places.Places.{Places}

-- A step gives the next place, up to the last; after that there is none.
abbrev pub Steps : Places → Option Place → Places → Type 0
Steps before place after =
    (after.end ≡ before.end)
    × MatchOption place ((before.end ≤ before.next) × (after.next ≡ before.next)) (λ p. (before.next < before.end) × (p.0 ≡ before.next) × (after.next ≡ before.next + 1))
