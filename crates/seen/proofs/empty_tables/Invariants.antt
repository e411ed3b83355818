-- The loop's invariant in `seen::empty_tables`: the first j sightings are those of no line.
use lib.ListN.{length, get_or}
use mathlib.Core.Bool.{false}
use mathlib.Core.Path.{◌≡◌}
use Prim.Native.Nat.{ℕ, ◌<◌}
use Rattle.seen.specs.Sightings.{tables}
use Rattle.seen.proofs.empty_tables.Given as goal

abbrev pub invariant-loop-j : goal.invariant-loop-j
invariant-loop-j l = (length l.sightings ≡ length l.initial.sightings)
    × ((i : ℕ) → i < l.j → get_or (tables l.sightings).earliest i 0 ≡ i)
    × ((i : ℕ) → i < l.j → get_or (tables l.sightings).parents i false ≡ false)
    × ((i : ℕ) → i < l.j → get_or (tables l.sightings).others i false ≡ false)
