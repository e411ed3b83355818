-- An order whose entries are all good has each station once, and then every station has a position.
-- The idea: the stations among the first j entries are counted, and there are j of them. Assumes nothing.
use Prim.Native.Nat.{ℕ, zero, suc, ◌*◌, ◌<◌, ◌≤◌}
use mathlib.Core.Path.{◌≡◌, refl, sym, ◌∙◌}
use mathlib.Core.Bool.{Bool, true, false, ◌||◌, or-false, or-true}
use mathlib.Core.List.{List}
use mathlib.Core.Logic.{◌≢◌}
use native.Mathlib.Decide.{dec_lt}
use native.Mathlib.Numerals.{add-one}
use native.Mathlib.Omega.{arith}
use borrow.Author.Tests.{eqb-true, eq-eqb, ne_eqb}
use lib.Dec.{eqb}
use lib.ListN.{length, get_or, drop, length-drop}
use lib.Seq.{length-take-le}
use Rattle.laws.specs.Fold.{any_from}
use Rattle.laws.specs.Count.{count}
use Rattle.laws.proofs.Count.{count_none, count_full, count_one_more}
use Rattle.laws.proofs.Fold.{first_last, first_at, any_some, any_more}
use Rattle.laws.proofs.Lists.{part_fits}
use Rattle.network.specs.Orders.{EachOnce}
use Rattle.plans.specs.Orders.{order_of, position_of}
use Rattle.plans.specs.Faults.{EntryGood}

-- A round's order has n entries, if the plan has room for it.
pub order_size : (n k : ℕ) (orders : List ℕ) (i : ℕ) → k * n ≤ length orders → i < k → length (order_of n orders i) ≡ n
unfolding order_of
order_size n k orders i room h = length-take-le n (drop (i * n) orders) (simp length-drop (omega (arith, part_fits i k n h)))

module _ (n : ℕ) (order : List ℕ) where
  -- whether v is among the first j entries
  abbrev among : ℕ → ℕ → Bool
  among j v = any_from (λ h. eqb (get_or order h 0) v) 0 j

  module _ (good : (j : ℕ) → j < n → EntryGood n order j) where
    counted : (j : ℕ) → j ≤ n → count n (among j) ≡ j
    counted zero h = count_none n (among 0) (λ v l. first_last (λ b. b) (λ x. eqb (get_or order x 0) v) false 0 (λ x m. absurd (omega arith)))
    counted (suc j) h =
        let e = count_one_more n (among j) (among (suc j)) (get_or order j 0) (good j (omega arith)).station absent present others in
        omega (arith, e, counted j (omega arith))
      where
        one_more : (v : ℕ) → among (suc j) v ≡ (among j v || eqb (get_or order j 0) v)
        one_more v = rw add-one at (any_more (λ x. eqb (get_or order x 0) v) j)

        absent : among j (get_or order j 0) ≡ false
        absent = first_last (λ b. b) (λ x. eqb (get_or order x 0) (get_or order j 0)) false j
            (λ x l. ne_eqb (get_or order x 0) (get_or order j 0) ((good j (omega arith)).new x l))

        present : among (suc j) (get_or order j 0) ≡ true
        present = one_more (get_or order j 0) ∙ rw (eq-eqb (get_or order j 0) (get_or order j 0) refl) (or-true (among j (get_or order j 0)))

        others : (v : ℕ) → v ≢ get_or order j 0 → among (suc j) v ≡ among j v
        others v m = one_more v ∙ rw (ne_eqb (get_or order j 0) v (λ (e : get_or order j 0 ≡ v). m (sym e))) (or-false (among j v))

    -- THEOREM. Good entries, as many as stations, are an order with each station once.
    pub good_each_once : length order ≡ n → EachOnce n order
    good_each_once size =
        record {
          size = size;
          station = λ j h. (good j h).station;
          once = λ i j h k e. apart i j h k e (dec_lt i j) (dec_lt j i);
          every = λ v h. found v (any_some (λ x. eqb (get_or order x 0) v) n (count_full n (among n) (counted n (omega arith)) v h));
        }
      where
        apart : (i j : ℕ) → i < n → j < n → get_or order i 0 ≡ get_or order j 0 → Dec (i < j) → Dec (j < i) → i ≡ j
        apart i j h k e (yes l) d = absurd ((good j k).new i l e)
        apart i j h k e (no m) (yes l) = absurd ((good i h).new j l (sym e))
        apart i j h k e (no m) (no o) = omega arith

        found : (v : ℕ) → ((j : ℕ) × (j < n) × (eqb (get_or order j 0) v ≡ true)) → (j : ℕ) × (j < n) × (get_or order j 0 ≡ v)
        found v (j, l, e) = (j, l, eqb-true (get_or order j 0) v e)

  -- The other way: the entries of an order with each station once are good.
  pub each_once_good : EachOnce n order → (j : ℕ) → j < n → EntryGood n order j
  each_once_good O j h =
      record { station = O.station j h; new = λ x l e. let same : x ≡ j = O.once x j (omega arith) h e in omega arith }

  -- ── positions ──

  module _ (O : EachOnce n order) where
    pub position_order : (j : ℕ) → j < n → position_of n order (get_or order j 0) ≡ j
    unfolding position_of
    position_order j h =
        first_at (λ x. eqb (get_or order x 0) (get_or order j 0)) (λ x. x) n n j h (eq-eqb (get_or order j 0) (get_or order j 0) refl)
        (λ x l. ne_eqb (get_or order x 0) (get_or order j 0) ((each_once_good O j h).new x l))

    pub position_below : (v : ℕ) → v < n → position_of n order v < n
    position_below v h = let (j, l, e) = O.every v h in rw (← e, position_order j l) l

    pub order_position : (v : ℕ) → v < n → get_or order (position_of n order v) 0 ≡ v
    order_position v h = let (j, l, e) = O.every v h in cc (position_order j l)

    pub position_one : (u v : ℕ) → u < n → v < n → position_of n order u ≡ position_of n order v → u ≡ v
    position_one u v h k e = cc (order_position u h, order_position v k)
