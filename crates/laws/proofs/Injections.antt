-- Counting one set against another: what goes one to one into a set has no more numbers than the set.
-- Assumes nothing.
use Prim.Native.Nat.{ℕ, zero, suc, ◌+◌, ◌≤◌, ◌<◌}
use mathlib.Core.Path.{◌≡◌, refl, sym}
use mathlib.Core.Bool.{Bool, true, false, not, ◌&&◌, and-false, and-true}
use mathlib.Core.Logic.{◌≢◌}
use native.Mathlib.Omega.{arith}
use borrow.Author.Tests.{eq-eqb, ne_eqb}
use lib.Dec.{eqb}
use Rattle.laws.specs.Count.{bit, count}
use Rattle.laws.proofs.Count.{count_one_more, count_all}

-- A set without one of its numbers.
abbrev without : (ℕ → Bool) → ℕ → ℕ → Bool
without set w v = set v && not (eqb v w)

without_it : (set : ℕ → Bool) (w : ℕ) → without set w w ≡ false
without_it set w = rw (eq-eqb w w refl) (and-false (set w))

without_other : (set : ℕ → Bool) (w v : ℕ) → v ≢ w → without set w v ≡ set v
without_other set w v n = rw (ne_eqb v w n) (and-true (set v))

-- Each number of the first set is paired with one of the second, and no two with the same.
pub count_into : (m n : ℕ) (first second : ℕ → Bool) (pair : ℕ → ℕ → Type 0)
    → ((p : ℕ) → p < m → first p ≡ true → (q : ℕ) × (q < n) × (second q ≡ true) × pair p q)
    → ((p p' q : ℕ) → p < m → p' < m → pair p q → pair p' q → p ≡ p')
    → count m first ≤ count n second
count_into zero n first second pair into once = omega arith
count_into (suc m) n first second pair into once =
    go (first m) refl (λ set. count_into m n first set pair)
  where
    once' : (p p' q : ℕ) → p < m → p' < m → pair p q → pair p' q → p ≡ p'
    once' p p' q l l' = once p p' q (omega arith) (omega arith)

    go : (b : Bool) → first m ≡ b
        → ((set : ℕ → Bool) → ((p : ℕ) → p < m → first p ≡ true → (q : ℕ) × (q < n) × (set q ≡ true) × pair p q)
        → ((p p' q : ℕ) → p < m → p' < m → pair p q → pair p' q → p ≡ p') → count m first ≤ count n set)
        → bit b + count m first ≤ count n second
    go false e ih = omega (arith, ih second (λ p l. into p (omega arith)) once')
    go true e ih =
        let (w, lw, sw, pw) = into m (omega arith) e in
        let less = count_one_more n (without second w) second w lw (without_it second w) sw (λ v o. sym (without_other second w v o)) in
        omega (arith, ih (without second w) (λ p l f. rest w pw p l (into p (omega arith) f)) once')
      where
        rest : (w : ℕ) → pair m w → (p : ℕ) → p < m → (q : ℕ) × (q < n) × (second q ≡ true) × pair p q → (q : ℕ) × (q < n) × (without second w q ≡ true) × pair p q
        rest w pw p l (q, lq, sq, pq) = (q, lq, rw (without_other second w q (λ (o : q ≡ w). let x : p ≡ m = once p m w (omega arith) (omega arith) (rw o at pq) pw in omega arith)) sq, pq)

-- At most n, where the numbers below n suffice for the pairs.
pub count_below : (m n : ℕ) (set : ℕ → Bool) (pair : ℕ → ℕ → Type 0)
    → ((p : ℕ) → p < m → set p ≡ true → (q : ℕ) × (q < n) × pair p q)
    → ((p p' q : ℕ) → p < m → p' < m → pair p q → pair p' q → p ≡ p')
    → count m set ≤ n
count_below m n set pair into once =
    omega (
      arith,
      count_into m n set (λ q. true) pair (λ p l e. let (q, lq, h) = into p l e in (q, lq, refl, h)) once,
      count_all n (λ q. true) (λ q l. refl),
    )
