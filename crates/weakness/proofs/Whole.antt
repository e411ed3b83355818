-- THEOREMS. A network stands at level k exactly when no set of fewer than k stations parts it; otherwise its weak spot is found, and no other.
-- Assumes nothing.
use Prim.Native.Nat.{ℕ, zero, suc, ◌<◌, ◌≤◌}
use mathlib.Core.Path.{◌≡◌, refl, sym, ap, ◌∙◌}
use mathlib.Core.Bool.{Bool, true, false, true≢false, or-false, or-true}
use mathlib.Core.List.{List, [], ◌∷◌}
use mathlib.Core.Logic.{◌⊎◌, ◌⊎◌.inl, ◌⊎◌.inr, ◌↔◌}
use native.Mathlib.Decide.{ℕ_discrete}
use native.Mathlib.Omega.{arith}
use borrow.Author.Tests.{eq-eqb, ne_eqb}
use lib.Dec.{eqb}
use lib.ListN.{length}
use Rattle.laws.specs.Fold.{first_from}
use Rattle.laws.specs.Count.{count, bit}
use Rattle.network.specs.Faults.{Sound}
use Rattle.pieces.specs.Joined.{Whole}
use Rattle.pieces.specs.Away.{is_away, Rising}
use Rattle.pieces.proofs.Away.{away_stands}
use Rattle.parting.specs.Standing.{Standing, Standing.stands, Standing.weak, is_weak, without}
use Rattle.tries.specs.Tries.{weak_spot}
use Rattle.parting.specs.Parts.{Parts}
use Rattle.weakness.specs.Spots.{StandsAt, IsWeakSpot}
use Rattle.parting.proofs.Whole.{without_cases, sturdy_whole, whole_same}
use Rattle.parting.proofs.Looking.{is_one, is_two}
use Rattle.parting.proofs.Remaining.{none_few, one_few, two_few}
use Rattle.weakness.proofs.Spots.{one_weak_spot}
use Rattle.weakness.proofs.Tries.{none_rising, one_rising, two_rising, rising_one, FirstWeak, NoneWeak, tries}

-- ── every set of at most two stations is one that is tried ──

-- A list that spells a set of stations out, in rising order.
record Spelled (n : ℕ) (away : ℕ → Bool) : Type 0 where
  spot : List ℕ
  rising : Rising n spot
  size : length spot ≡ count n away
  same : (u : ℕ) → u < n → away u ≡ is_away spot u

rising_more : {n : ℕ} {spot : List ℕ} → Rising n spot → Rising (suc n) spot
rising_more r = record { below = λ j l. omega (arith, r.below j l); above = r.above }

-- A list of stations below n does not hold n.
not_held : {n : ℕ} (spot : List ℕ) → Rising n spot → is_away spot n ≡ false
not_held {n} spot r = go (is_away spot n) refl
  where
    go : (b : Bool) → is_away spot n ≡ b → b ≡ false
    go false e = refl
    go true e = let (j, l, f) = away_stands spot n e in absurd (omega (arith, r.below j l, f))

spelled : (n : ℕ) (away : ℕ → Bool) → count n away < 3 → Spelled n away
unfolding is_away first_from
spelled zero away few = record { spot = []; rising = none_rising 0; size = refl; same = λ u l. absurd (omega arith) }
spelled (suc n) away few = go (away n) refl (λ h. spelled n away h)
  where
    -- what is so below n and at n is so below n + 1
    up_to : (other : ℕ → Bool) → away n ≡ other n → ((u : ℕ) → u < n → away u ≡ other u) → (u : ℕ) → u < suc n → away u ≡ other u
    up_to other e h u l = at (ℕ_discrete u n)
      where
        at : Dec (u ≡ n) → away u ≡ other u
        at (yes f) = rw f e
        at (no m) = h u (omega arith)

    go : (b : Bool) → away n ≡ b → (count n away < 3 → Spelled n away) → Spelled (suc n) away
    go false e ih =
        let nothing : bit (away n) ≡ 0 = rw e in
        let s = ih (omega arith) in
        record { spot = s.spot; rising = rising_more s.rising; size = omega (arith, s.size); same = up_to (is_away s.spot) (e ∙ sym (not_held s.spot s.rising)) s.same }
    go true e ih =
        let one : bit (away n) ≡ 1 = rw e in
        more one (ih (omega arith))
      where
        add : bit (away n) ≡ 1 → (spot : List ℕ) → Rising n spot → length spot ≡ count n away → ((u : ℕ) → u < n → away u ≡ is_away spot u) → Spelled (suc n) away
        add one [] r size same =
            record {
              spot = n ∷ [];
              rising = one_rising (suc n) n (omega arith);
              size = omega arith;
              same = up_to (is_away (n ∷ [])) (rw (e, is_one n n, eq-eqb n n refl)) (λ u l. same u l ∙ sym (is_one n u ∙ ne_eqb n u (λ (f : n ≡ u). omega arith)));
            }
        add one (v ∷ []) r size same =
            record {
              spot = v ∷ (n ∷ []);
              rising = two_rising (suc n) v n (rising_one r) (omega arith);
              size = omega arith;
              same = up_to (is_away (v ∷ (n ∷ []))) (rw (e, is_two v n n, eq-eqb n n refl) (sym (or-true (eqb v n))))
                  (λ u l. same u l ∙ (is_one v u ∙ sym (rw (is_two v n u, ne_eqb n u (λ (f : n ≡ u). omega arith)) (or-false (eqb v u)))));
            }
        add one (v ∷ (w ∷ t)) r size same = absurd (omega arith)

        more : bit (away n) ≡ 1 → Spelled n away → Spelled (suc n) away
        more one s = add one s.spot s.rising s.size s.same

-- A set that is tried takes few stations away.
spot_few : (n : ℕ) (spot : List ℕ) → length spot < 3 → count n (is_away spot) ≤ length spot
spot_few n [] h = omega (arith, none_few n)
spot_few n (v ∷ []) h = one_few n v
spot_few n (v ∷ (w ∷ [])) h = two_few n v w
spot_few n (v ∷ (w ∷ (x ∷ t))) h = absurd (omega arith)

-- ── the theorems ──

module _ (n k : ℕ) (lines : List ℕ) (sound : Sound n lines) (some : 1 ≤ k) (most : k ≤ 3) where
  none_whole : NoneWeak n lines k → (away : ℕ → Bool) → count n away < k → Whole n lines away
  none_whole r away few =
      let s = spelled n away (omega arith) in
      whole_same s.same (sturdy_whole n lines sound s.spot (r.none s.spot (record { few = omega (arith, s.size); rising = s.rising })))

  -- the first set that is weak is the weak spot
  first_weak : (r : FirstWeak n lines k) {spot : List ℕ} {a b : ℕ} → weak_spot n k lines ≡ weak spot a b → IsWeakSpot n k lines spot a b
  first_weak r {spot} {a} {b} e = go (without_cases n lines sound r.spot)
    where
      go : ((without n lines r.spot ≡ stands) × Whole n lines (is_away r.spot))
          ⊎ ((c d : ℕ) × (without n lines r.spot ≡ weak r.spot c d) × Parts n lines (is_away r.spot) c d)
          → IsWeakSpot n k lines spot a b
      go (inl w) = absurd (true≢false (sym r.parts ∙ ap is_weak w.0))
      go (inr (c, d, f, p)) =
          let same : ◌≡◌ {A = Standing} (weak r.spot c d) (weak spot a b) = sym f ∙ (sym r.is ∙ e) in
          let x : r.spot ≡ spot = cc in
          let y : c ≡ a = cc in
          let z : d ≡ b = cc in
          let found : IsWeakSpot n k lines r.spot c d =
          record { tried = r.tried; parts = p; none_earlier = λ s t f. sturdy_whole n lines sound s (r.earlier s t f) } in
          rw (x, y, z) at found

  found_spot : {spot : List ℕ} {a b : ℕ} → weak_spot n k lines ≡ weak spot a b → FirstWeak n lines k ⊎ NoneWeak n lines k → IsWeakSpot n k lines spot a b
  found_spot e (inl r) = first_weak r e
  found_spot e (inr r) = absurd (true≢false (ap is_weak (sym e ∙ r.is)))

  -- THEOREM. A network stands exactly when no set of fewer than k stations parts any two remaining ones.
  pub stands_whole : (weak_spot n k lines ≡ stands) ↔ StandsAt n k lines
  stands_whole = (λ e. forth e (tries n lines k some most), λ h. back h (tries n lines k some most))
    where
      forth : weak_spot n k lines ≡ stands → FirstWeak n lines k ⊎ NoneWeak n lines k → StandsAt n k lines
      forth e (inl r) = absurd (true≢false (sym r.parts ∙ (ap is_weak (sym r.is) ∙ ap is_weak e)))
      forth e (inr r) = record { whole = none_whole r }

      parted : StandsAt n k lines → (r : FirstWeak n lines k)
          → ((without n lines r.spot ≡ stands) × Whole n lines (is_away r.spot))
          ⊎ ((c d : ℕ) × (without n lines r.spot ≡ weak r.spot c d) × Parts n lines (is_away r.spot) c d)
          → ⊥
      parted h r (inl w) = true≢false (sym r.parts ∙ ap is_weak w.0)
      parted h r (inr (c, d, f, p)) =
          p.apart ((h.whole (is_away r.spot) (omega (arith, r.tried.few, spot_few n r.spot (omega (arith, r.tried.few))))).joined c d p.first p.second)

      back : StandsAt n k lines → FirstWeak n lines k ⊎ NoneWeak n lines k → weak_spot n k lines ≡ stands
      back h (inl r) = absurd (parted h r (without_cases n lines sound r.spot))
      back h (inr r) = r.is

  -- THEOREM. A weak spot is found exactly where it is the weak spot of the network.
  pub weak_spot_lem : {spot : List ℕ} {a b : ℕ} → (weak_spot n k lines ≡ weak spot a b) ↔ IsWeakSpot n k lines spot a b
  weak_spot_lem {spot} {a} {b} = (λ e. found_spot e (tries n lines k some most), λ W. back W (weak_spot n k lines) refl)
    where
      back : IsWeakSpot n k lines spot a b → (found : Standing) → weak_spot n k lines ≡ found → weak_spot n k lines ≡ weak spot a b
      back W stands e =
          let few : count n (is_away spot) < k = omega (arith, W.tried.few, spot_few n spot (omega (arith, W.tried.few))) in
          absurd (W.parts.apart (((stands_whole.0 e).whole (is_away spot) few).joined a b W.parts.first W.parts.second))
      back W (weak other c d) e =
          let (x, y, z) = one_weak_spot most (found_spot e (tries n lines k some most)) W in
          e ∙ rw (x, y, z)
