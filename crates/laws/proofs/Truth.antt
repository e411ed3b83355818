-- Tests: two of them taken together, when two are the same, and what facts they tell exactly.
-- Assumes nothing.
use Prim.Native.Nat.{ℕ, ◌<◌, ◌≤◌}
use mathlib.Core.Path.{◌≡◌, refl, sym}
use mathlib.Core.Bool.{Bool, true, false, not, ◌&&◌, ◌||◌, true≢false, and-eq-true_iff}
use mathlib.Core.Logic.Iff
use mathlib.Core.Logic.{◌↔◌, ◌⊎◌, ◌⊎◌.inl, ◌⊎◌.inr}
use borrow.Author.Tests.{ltb-true, lt-ltb, leb-true, le-leb, eqb-true, eq-eqb}
use lib.Dec.{ltb, leb, eqb}

-- Both of two tests hold, one of them does, neither does.
pub both_true : (x y : Bool) → (x && y) ≡ true → (x ≡ true) × (y ≡ true)
both_true true y e = (refl, e)
both_true false y e = absurd (true≢false (sym e))

pub either_true : (x y : Bool) → (x || y) ≡ true → (x ≡ true) ⊎ (y ≡ true)
either_true true y e = inl refl
either_true false y e = inr e

pub neither : (x y : Bool) → (x || y) ≡ false → (x ≡ false) × (y ≡ false)
neither true y e = absurd (true≢false e)
neither false y e = (refl, e)

-- A test that does not hold fails.
pub not_so : (x : Bool) → ¬ (x ≡ true) → x ≡ false
not_so true n = absurd (n refl)
not_so false n = refl

-- Two tests that hold in the same cases are the same.
pub same_truth : (x y : Bool) → (x ≡ true → y ≡ true) → (y ≡ true → x ≡ true) → x ≡ y
same_truth true true f g = refl
same_truth true false f g = absurd (true≢false (sym (f refl)))
same_truth false true f g = absurd (true≢false (sym (g refl)))
same_truth false false f g = refl

-- Two tests tell exactly that one fact or the other holds, or both; a denied one tells that its fact does not.
pub or_either : {b c : Bool} {P Q : Type 0} → (b ≡ true) ↔ P → (c ≡ true) ↔ Q → ((b || c) ≡ true) ↔ (P ⊎ Q)
or_either {b = true} p q = (λ e. inl (p.0 refl), λ h. refl)
or_either {b = false} p q = (λ e. inr (q.0 e), λ h. elim h [ inl x ↦ absurd (true≢false (sym (p.1 x))) | inr y ↦ q.1 y ])

pub and_both : {b c : Bool} {P Q : Type 0} → (b ≡ true) ↔ P → (c ≡ true) ↔ Q → ((b && c) ≡ true) ↔ (P × Q)
and_both {b} {c} p q = Iff.trans (and-eq-true_iff b c) (Iff.and p q)

pub not_exactly : {b : Bool} {P : Type 0} → (b ≡ true) ↔ P → (not b ≡ true) ↔ (¬ P)
not_exactly {b = true} p = (λ e. absurd (true≢false (sym e)), λ n. absurd (n (p.0 refl)))
not_exactly {b = false} p = (λ e h. true≢false (sym (p.1 h)), λ n. refl)

-- What the tests of numbers tell.
pub ltb_exactly : (a b : ℕ) → (ltb a b ≡ true) ↔ (a < b)
ltb_exactly a b = (ltb-true a b, lt-ltb a b)

pub leb_exactly : (a b : ℕ) → (leb a b ≡ true) ↔ (a ≤ b)
leb_exactly a b = (leb-true a b, le-leb a b)

pub eqb_exactly : (a b : ℕ) → (eqb a b ≡ true) ↔ (a ≡ b)
eqb_exactly a b = (eqb-true a b, eq-eqb a b)
