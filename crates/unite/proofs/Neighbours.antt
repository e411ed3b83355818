-- The neighbours of a union: two stations are neighbours in it exactly when in one of the two lists, it is sound where it is within
-- the limits, and it is no longer than a union of lists with more neighbours. Assumes nothing.
use Prim.Native.Nat.{ℕ, zero, suc, ◌/◌, ◌<◌, ◌≤◌}
use mathlib.Core.Path.{◌≡◌, refl}
use mathlib.Core.Bool.{Bool, true, false}
use mathlib.Core.Logic.{◌⊎◌, ◌⊎◌.inl, ◌⊎◌.inr, ◌↔◌}
use mathlib.Core.List.{List, [], ◌∷◌, ◌++◌}
use native.Mathlib.Decide.{ℕ_discrete}
use native.Mathlib.Omega.{arith}
use lib.ListN.{length}
use Rattle.laws.specs.Fold.{pick, up_to}
use Rattle.laws.proofs.Fold.{any_some}
use Rattle.laws.proofs.Count.{count_all}
use Rattle.laws.proofs.Injections.{count_below}
use Rattle.network.specs.Lines.{end_one, end_two, network, Joins, Joins.forth, Joins.back, Simple}
use Rattle.network.specs.Chains.{Hop, Hop.by, Every}
use Rattle.network.specs.Faults.{Sound}
use Rattle.network.specs.Judging.{same_ends, stood_before}
use Rattle.network.proofs.Chains.{hop_back, hop_map}
use Rattle.network.proofs.Longer.{Neighbours, neighbours_as, neighbours_more}
use Rattle.network.proofs.Sound.{joins_same, not_stood}
use Rattle.unite.specs.Union.{add_line, united}

module _ {n : ℕ} {first second : List ℕ} (one : Sound n first) (two : Sound n second) where
  -- in the first list, or by a line of the second before place p
  abbrev InEither : ℕ → ℕ → ℕ → Type 0
  InEither p u v = Hop (network n first) Every u v ⊎ Hop (network n second) (λ q. q < p) u v

  wider : {p u v : ℕ} → InEither p u v → InEither (suc p) u v
  wider (inl h) = inl h
  wider {p} (inr h) = inr (hop_map (λ q _ (k : q < p). omega arith) h)

  -- one place more: as before, or by the line of the second at place p
  more : {p u v : ℕ} → InEither (suc p) u v → InEither p u v ⊎ Joins (network n second) p u v
  more (inl h) = inl (inl h)
  more {p} {u} {v} (inr (by q l k j)) = go (ℕ_discrete q p)
    where
      go : Dec (q ≡ p) → InEither p u v ⊎ Joins (network n second) p u v
      go (yes e) = inr (rw e at j)
      go (no o) = inl (inr (by q l (omega arith) j))

  -- a line of the second that stands in the first
  stands : {p u v : ℕ} → stood_before first (length first / 2) (end_one second p) (end_two second p) ≡ true → Joins (network n second) p u v → Hop (network n first) Every u v
  stands {p} {u} {v} e j = turn (any_some (λ q. same_ends (end_one second p) (end_two second p) (end_one first q) (end_two first q)) (length first / 2) e) j
    where
      turn : ((q : ℕ) × (q < length first / 2) × (same_ends (end_one second p) (end_two second p) (end_one first q) (end_two first q) ≡ true))
          → Joins (network n second) p u v → Hop (network n first) Every u v
      turn (q, l, s) (forth x y) = by q l tt (rw (x, y) at (joins_same n first q (end_one second p) (end_two second p) s))
      turn (q, l, s) (back x y) = hop_back (by q l tt (rw (x, y) at (joins_same n first q (end_one second p) (end_two second p) s)))

  -- one that does not is no line of the union so far
  fresh : {p : ℕ} → p < length second / 2 → stood_before first (length first / 2) (end_one second p) (end_two second p) ≡ false → ¬ InEither p (end_one second p) (end_two second p)
  fresh {p} l e (inl (by q lq _ j)) = not_stood n first (length first / 2) (end_one second p) (end_two second p) e q lq j
  fresh {p} l e (inr (by q lq k j)) =
      let same : p ≡ q = two.simple.once p q (end_one second p) (end_two second p) l lq (forth refl refl) j in omega arith

  added : (p : ℕ) → p ≤ length second / 2 → Neighbours n (up_to (add_line first second) first p) (InEither p)
  unfolding up_to add_line
  added zero l =
      record { even = one.within.even; simple = one.simple; has = λ u v h. inl h; all = λ u v h. elim h [ inl k ↦ k | inr k ↦ absurd (none k) ] }
    where
      none : {u v : ℕ} → Hop (network n second) (λ q. q < 0) u v → ⊥
      none (by q lq k j) = omega arith
  added (suc p) l = go (stood_before first (length first / 2) (end_one second p) (end_two second p)) refl (up_to (add_line first second) first p) (added p (omega arith))
    where
      go : (b : Bool) → stood_before first (length first / 2) (end_one second p) (end_two second p) ≡ b → (old : List ℕ) → Neighbours n old (InEither p)
          → Neighbours n (pick b old (old ++ (end_one second p ∷ (end_two second p ∷ [])))) (InEither (suc p))
      go true e old S = neighbours_as (λ u v h. wider h) (λ u v h. elim (more h) [ inl k ↦ k | inr j ↦ inl (stands e j) ]) S
      go false e old S =
          neighbours_as (λ u v h. elim h [ inl k ↦ wider k | inr j ↦ inr (by p l (omega arith) j) ]) (λ u v h. more h)
          (neighbours_more S second p two.simple.proper l (fresh l e))

  union : Neighbours n (united first second) (InEither (length second / 2))
  unfolding united
  union = added (length second / 2) (omega arith)

  -- THEOREM. Two stations are neighbours in the union exactly when in one of the two lists.
  pub united_hop : (u v : ℕ) → Hop (network n (united first second)) Every u v ↔ (Hop (network n first) Every u v ⊎ Hop (network n second) Every u v)
  united_hop u v = (
    λ h. elim (union.has u v h) [ inl k ↦ inl k | inr k ↦ inr (hop_map (λ q _ _. tt) k) ],
    λ h. union.all u v (elim h [ inl k ↦ inl k | inr k ↦ inr (hop_map (λ q l _. l) k) ]),
  )

  -- THEOREM. The union of two sound lists is simple, and sound where it is within the line limit.
  pub united_simple : Simple (network n (united first second))
  united_simple = union.simple

  pub united_sound : length (united first second) ≤ 16384 → Sound n (united first second)
  united_sound h = record { within = record { some = one.within.some; most = one.within.most; even = union.even; few = h }; simple = union.simple }

-- A simple list whose neighbours are all neighbours in another has no more lines than the other.
pub lines_fewer : {n : ℕ} (lines others : List ℕ) → Simple (network n lines)
    → ((u v : ℕ) → Hop (network n lines) Every u v → Hop (network n others) Every u v) → length lines / 2 ≤ length others / 2
lines_fewer {n} lines others simple among =
    omega (
      arith,
      count_below (length lines / 2) (length others / 2) (λ p. true) (λ p q. Joins (network n others) q (end_one lines p) (end_two lines p)) into once,
      count_all (length lines / 2) (λ p. true) (λ p l. refl),
    )
  where
    into : (p : ℕ) → p < length lines / 2 → true ≡ true → (q : ℕ) × (q < length others / 2) × Joins (network n others) q (end_one lines p) (end_two lines p)
    into p l _ = at (among (end_one lines p) (end_two lines p) (by p l tt (forth refl refl)))
      where
        at : Hop (network n others) Every (end_one lines p) (end_two lines p) → (q : ℕ) × (q < length others / 2) × Joins (network n others) q (end_one lines p) (end_two lines p)
        at (by q lq _ j) = (q, lq, j)

    -- two lines that have the ends of a third, either way round
    turned : (p p' q : ℕ) → Joins (network n others) q (end_one lines p) (end_two lines p) → Joins (network n others) q (end_one lines p') (end_two lines p')
        → Joins (network n lines) p' (end_one lines p) (end_two lines p)
    turned p p' q (forth x y) (forth z w) = forth (cc) (cc)
    turned p p' q (forth x y) (back z w) = back (cc) (cc)
    turned p p' q (back x y) (forth z w) = back (cc) (cc)
    turned p p' q (back x y) (back z w) = forth (cc) (cc)

    once : (p p' q : ℕ) → p < length lines / 2 → p' < length lines / 2
        → Joins (network n others) q (end_one lines p) (end_two lines p) → Joins (network n others) q (end_one lines p') (end_two lines p') → p ≡ p'
    once p p' q l l' j j' = simple.once p p' (end_one lines p) (end_two lines p) l l' (forth refl refl) (turned p p' q j j')

-- THEOREM. A union of lists with fewer neighbours is no longer.
pub united_fewer : {n : ℕ} {first second first' second' : List ℕ} → Sound n first → Sound n second → Sound n first' → Sound n second'
    → ((u v : ℕ) → Hop (network n first') Every u v → Hop (network n first) Every u v)
    → ((u v : ℕ) → Hop (network n second') Every u v → Hop (network n second) Every u v)
    → length (united first' second') ≤ length (united first second)
united_fewer {n} {first} {second} {first'} {second'} one two one' two' f s =
    omega (arith, (union one' two').even, lines_fewer (united first' second') (united first second) (united_simple one' two') among)
  where
    among : (u v : ℕ) → Hop (network n (united first' second')) Every u v → Hop (network n (united first second)) Every u v
    among u v h = (united_hop one two u v).1 (elim ((united_hop one' two' u v).0 h) [ inl k ↦ inl (f u v k) | inr k ↦ inr (s u v k) ])
