-- Decisions: from parts to wholes, and over the numbers below a bound.
-- Assumes nothing.
use mathlib.Core.Path.{◌≡◌, subst}
use mathlib.Core.Logic.{◌⊎◌, ◌⊎◌.inl, ◌⊎◌.inr}
use Prim.Native.Nat.{ℕ, zero, suc, ◌<◌}
use native.Mathlib.Omega.{arith}
use native.Mathlib.Decide.{ℕ_discrete}

unfoldable pub dec_and : {A B : Type 0} → Dec A → Dec B → Dec (A × B)
dec_and (yes a) (yes b) = yes (a, b)
dec_and (yes a) (no n) = no (λ h. n h.1)
dec_and (no n) d = no (λ h. n h.0)

unfoldable pub dec_or : {A B : Type 0} → Dec A → Dec B → Dec (A ⊎ B)
dec_or (yes a) d = yes (inl a)
dec_or (no n) (yes b) = yes (inr b)
dec_or (no n) (no m) = no (λ h. elim h [ inl a ↦ n a | inr b ↦ m b ])

unfoldable pub dec_not : {A : Type 0} → Dec A → Dec (¬ A)
dec_not (yes a) = no (λ n. n a)
dec_not (no n) = yes n

-- Some number below m has the property, or none has.
pub some_below : (P : ℕ → Type 0) → ((p : ℕ) → Dec (P p)) → (m : ℕ) → ((p : ℕ) × (p < m) × P p) ⊎ ((p : ℕ) → p < m → ¬ P p)
some_below P d zero = inr (λ p h. omega arith)
some_below P d (suc m) = go (d m) (some_below P d m)
  where
    go : Dec (P m) → ((p : ℕ) × (p < m) × P p) ⊎ ((p : ℕ) → p < m → ¬ P p) → ((p : ℕ) × (p < suc m) × P p) ⊎ ((p : ℕ) → p < suc m → ¬ P p)
    go (yes h) r = inl (m, omega arith, h)
    go (no n) (inl (p, l, h)) = inl (p, omega arith, h)
    go (no n) (inr f) = inr (λ p l. last p l (ℕ_discrete p m))
      where
        last : (p : ℕ) → p < suc m → Dec (p ≡ m) → ¬ P p
        last p l (yes e) h = n (subst P e h)
        last p l (no e) h = f p (omega arith) h
