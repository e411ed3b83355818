-- THEOREM. The document's words determine the weak spot and the two stations: a network has one only.
-- The idea: of two sets that are tried, one is tried before the other, and then parts no two. Assumes nothing.
use Prim.Native.Nat.{ℕ, ◌<◌, ◌≤◌}
use mathlib.Core.Path.{◌≡◌, refl, sym, ap, ap₂}
use mathlib.Core.Bool.{Bool}
use mathlib.Core.List.{List, [], ◌∷◌}
use mathlib.Core.Logic.{◌⊎◌, ◌⊎◌.inl, ◌⊎◌.inr}
use native.Mathlib.Decide.{dec_lt}
use native.Mathlib.Omega.{arith}
use lib.ListN.{length}
use Rattle.parting.specs.Parts.{Parts}
use Rattle.weakness.specs.Spots.{Earlier, Earlier.fewer, Earlier.first, Earlier.second, IsWeakSpot}

-- One of two numbers is lower, or they are the same.
lower_or_same : (v w : ℕ) → (v < w) ⊎ ((w < v) ⊎ (v ≡ w))
lower_or_same v w = go (dec_lt v w) (dec_lt w v)
  where
    go : Dec (v < w) → Dec (w < v) → (v < w) ⊎ ((w < v) ⊎ (v ≡ w))
    go (yes l) d = inl l
    go (no m) (yes l) = inr (inl l)
    go (no m) (no o) = inr (inr (omega arith))

abbrev Ordered : List ℕ → List ℕ → Type 0
Ordered one two = Earlier one two ⊎ (Earlier two one ⊎ (one ≡ two))

-- Of two sets of at most two stations, one is tried before the other, or they are the same.
ordered : (one two : List ℕ) → length one < 3 → length two < 3 → Ordered one two
ordered [] [] l m = inr (inr refl)
ordered [] (w ∷ two) l m = inl (fewer (omega arith))
ordered (v ∷ []) [] l m = inr (inl (fewer (omega arith)))
ordered (v ∷ []) (w ∷ []) l m = go (lower_or_same v w)
  where
    go : (v < w) ⊎ ((w < v) ⊎ (v ≡ w)) → Ordered (v ∷ []) (w ∷ [])
    go (inl h) = inl (first refl h)
    go (inr (inl h)) = inr (inl (first refl h))
    go (inr (inr e)) = inr (inr (ap (λ x. x ∷ []) e))
ordered (v ∷ []) (w ∷ (y ∷ two)) l m = inl (fewer (omega arith))
ordered (v ∷ (x ∷ [])) [] l m = inr (inl (fewer (omega arith)))
ordered (v ∷ (x ∷ [])) (w ∷ []) l m = inr (inl (fewer (omega arith)))
ordered (v ∷ (x ∷ [])) (w ∷ (y ∷ [])) l m = go (lower_or_same v w) (lower_or_same x y)
  where
    go : (v < w) ⊎ ((w < v) ⊎ (v ≡ w)) → (x < y) ⊎ ((y < x) ⊎ (x ≡ y)) → Ordered (v ∷ (x ∷ [])) (w ∷ (y ∷ []))
    go (inl h) s = inl (first refl h)
    go (inr (inl h)) s = inr (inl (first refl h))
    go (inr (inr e)) (inl h) = inl (second refl e h)
    go (inr (inr e)) (inr (inl h)) = inr (inl (second refl (sym e) h))
    go (inr (inr e)) (inr (inr f)) = inr (inr (ap₂ (λ i j. i ∷ (j ∷ [])) e f))
ordered (v ∷ (x ∷ [])) (w ∷ (y ∷ (z ∷ two))) l m = absurd (omega arith)
ordered (v ∷ (x ∷ (z ∷ one))) two l m = absurd (omega arith)

module _ {n k : ℕ} {lines : List ℕ} (most : k ≤ 3) where
  -- a set that parts two is not one that is tried before the weak spot
  none_before : {spot other : List ℕ} {a b c d : ℕ} → IsWeakSpot n k lines spot a b → IsWeakSpot n k lines other c d → ¬ Earlier other spot
  none_before {other = other} {c = c} {d} this that e = that.parts.apart ((this.none_earlier other that.tried e).joined c d that.parts.first that.parts.second)

  same_parts : {away : ℕ → Bool} {a b c d : ℕ} → Parts n lines away a b → Parts n lines away c d → (a ≡ c) × (b ≡ d)
  same_parts {a = a} {b} {c} {d} P Q = (same, go (lower_or_same b d))
    where
      same : a ≡ c
      same = omega (arith, P.lowest c Q.first, Q.lowest a P.first)

      go : (b < d) ⊎ ((d < b) ⊎ (b ≡ d)) → b ≡ d
      go (inl l) = absurd (P.apart (rw same (Q.below b P.second l)))
      go (inr (inl l)) = absurd (Q.apart (rw (← same) (P.below d Q.second l)))
      go (inr (inr e)) = e

  pub one_weak_spot : {spot other : List ℕ} {a b c d : ℕ} → IsWeakSpot n k lines spot a b → IsWeakSpot n k lines other c d → (spot ≡ other) × (a ≡ c) × (b ≡ d)
  one_weak_spot {spot} {other} {a} {b} {c} {d} this that = go (ordered spot other (omega (arith, this.tried.few)) (omega (arith, that.tried.few)))
    where
      go : Ordered spot other → (spot ≡ other) × (a ≡ c) × (b ≡ d)
      go (inl e) = absurd (none_before that this e)
      go (inr (inl e)) = absurd (none_before this that e)
      go (inr (inr e)) = let (f, g) = same_parts this.parts (rw (← e) at that.parts) in (e, f, g)
