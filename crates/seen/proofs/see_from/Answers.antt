-- `seen::see_from` meets its contract. A store in the table is one in each of the three, and an entry stored again changes nothing.
-- Assumes nothing.
use Prim.Native.Nat.{ℕ, ◌<◌, ◌≤◌}
use mathlib.Core.Bool.{Bool, true, false, ◌||◌}
use mathlib.Core.List.{List}
use mathlib.Core.Path.{◌≡◌, refl, ap}
use lib.ListN.{get_or, set, get_or-map}
use borrow.Author.Tests.{lt-ltb, le-ltb}
use Rattle.std.proofs.lemmas.List.{map-set, set-get_or}
use borrow.Author.Rules.{rules}
use Rattle.laws.specs.Fold.{pick}
use Rattle.seen.specs.declared.Sighting.{Sighting}
use Rattle.seen.specs.Tables.{see_from, seen}
use Rattle.seen.specs.Sightings.{tables}
use Rattle.seen.proofs.see_from.Goals as goal
use Rattle.seen.proofs.see_from.Goals.{then-lt, else-lt}

abbrev none : Sighting
none = record { earliest = record { 0 = 0 }; parent = false; other = false }

-- An entry joined with a test is marked where the test holds.
marked : (xs : List Bool) (j : ℕ) (x b : Bool) → get_or xs j false ≡ x → set xs j (x || b) ≡ pick b (set xs j true) xs
marked xs j true true e = refl
marked xs j false true e = refl
marked xs j true false e = rw (← e) (set-get_or xs j false)
marked xs j false false e = rw (← e) (set-get_or xs j false)

module _ (xs : List Sighting) (j e : ℕ) (t : Bool) where
  abbrev x : Sighting
  x = get_or xs j none

  earliest_at : get_or (tables xs).earliest j 0 ≡ x.earliest.0
  earliest_at = get_or-map (λ (s : Sighting). s.earliest.0) xs j none

  parent_at : get_or (tables xs).parents j false ≡ x.parent
  parent_at = get_or-map (λ (s : Sighting). s.parent) xs j none

  other_at : get_or (tables xs).others j false ≡ x.other
  other_at = get_or-map (λ (s : Sighting). s.other) xs j none

  nearer : e < x.earliest.0 → tables (set xs j (record { earliest = record { 0 = e }; parent = t; other = x.other || x.parent })) ≡ see_from j e t (tables xs)
  unfolding see_from
  nearer h =
      rw (earliest_at, parent_at, lt-ltb _ _ h)
      (simp map-set (ap (λ (others : List Bool). seen (set (tables xs).earliest j e) (set (tables xs).parents j t) others) (marked (tables xs).others j x.other x.parent other_at)))

  further : x.earliest.0 ≤ e → tables (set xs j (record { earliest = x.earliest; parent = x.parent; other = x.other || t })) ≡ see_from j e t (tables xs)
  unfolding see_from
  further h =
      rw (earliest_at, le-ltb _ _ h)
      (simp (map-set, marked (tables xs).others j x.other t other_at, ← earliest_at, ← parent_at, set-get_or))

pub returns : goal.returns
returns c =
    let a = c.args in
    record {
      seen = elim c.if-lt.branch [
        | then-lt w ↦ rw w.sightings-is (nearer a.sightings.now a.later.0 a.earlier.0 a.taken (search rules))
        | else-lt w ↦ rw w.sightings-is (further a.sightings.now a.later.0 a.earlier.0 a.taken (search rules))
      ];
    }
