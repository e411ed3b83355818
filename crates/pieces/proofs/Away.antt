-- The laws of the stations that are taken away, as a list and as marks.
-- Assumes nothing.
use Prim.Native.Nat.{ℕ, ◌<◌, ◌≤◌}
use mathlib.Core.Path.{◌≡◌, ◌∙◌}
use mathlib.Core.Bool.{Bool, true, false}
use mathlib.Core.List.{List}
use native.Mathlib.Omega.{arith}
use borrow.Author.Tests.{eqb-true, eq-eqb}
use lib.Dec.{eqb}
use lib.ListN.{length, get_or, take, replicate}
use lib.Seq.{get_or-take, length-take-le}
use Rattle.laws.proofs.Fold.{any_some, some_any}
use Rattle.laws.proofs.Lists.{replicate_at}
use Rattle.pieces.specs.Away.{is_away, Unmarked}

module _ (away : List ℕ) (v : ℕ) where
  -- THEOREM. A station is taken away just when it stands in the list.
  pub away_stands : is_away away v ≡ true → (j : ℕ) × (j < length away) × (get_or away j 0 ≡ v)
  unfolding is_away
  away_stands e =
      let (j, l, f) = any_some (λ j. eqb (get_or away j 0) v) (length away) e in
      (j, l, eqb-true (get_or away j 0) v f)

  pub stands_away : (j : ℕ) → j < length away → get_or away j 0 ≡ v → is_away away v ≡ true
  unfolding is_away
  stands_away j l e = some_any (λ j. eqb (get_or away j 0) v) (length away) j l (eq-eqb (get_or away j 0) v e)

-- Among marks none of which is set, the first n have none that is; and so have those of an array of them.
pub unmarked_part : (n : ℕ) (gone : List Bool) → n ≤ length gone → Unmarked gone → Unmarked (take n gone)
unmarked_part n gone h u =
    record {
      none = λ v l. let k : v < n = omega (arith, length-take-le n gone h) in get_or-take n gone v false k ∙ u.none v (omega arith);
    }

pub unmarked_array : (n : ℕ) → Unmarked (replicate n false)
unmarked_array n = record { none = λ v l. replicate_at n v false }
