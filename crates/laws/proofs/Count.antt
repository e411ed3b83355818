-- The laws of sums and counts.
-- Assumes nothing.
use mathlib.Core.Path.{◌≡◌, refl, sym, subst}
use mathlib.Core.Logic.{◌≢◌}
use mathlib.Core.Bool.{Bool, true, false, ◌||◌}
use Prim.Native.Nat.{ℕ, zero, suc, ◌+◌, ◌≤◌, ◌<◌}
use native.Mathlib.Numerals.{add-one}
use native.Mathlib.Omega.{arith}
use native.Mathlib.Decide.{ℕ_discrete}
use borrow.Author.Tests.{ne_eqb}
use lib.Dec.{eqb}
use Rattle.laws.specs.Count.{total, bit, count}

pub total_le : (n : ℕ) (f g : ℕ → ℕ) → ((v : ℕ) → v < n → f v ≤ g v) → total n f ≤ total n g
total_le zero f g h = omega arith
total_le (suc n) f g h = omega (arith, h n (omega arith), total_le n f g (λ v l. h v (omega arith)))

pub total_lt : (n : ℕ) (f g : ℕ → ℕ) (w : ℕ) → w < n → f w < g w → ((v : ℕ) → v < n → f v ≤ g v) → total n f < total n g
total_lt zero f g w l s h = omega arith
total_lt (suc n) f g w l s h = go (ℕ_discrete w n) (λ m. total_lt n f g w m s (λ v l. h v (omega arith)))
  where
    rest : total n f ≤ total n g
    rest = total_le n f g (λ v l. h v (omega arith))

    go : Dec (w ≡ n) → (w < n → total n f < total n g) → total (suc n) f < total (suc n) g
    go (yes e) ih = let t : f n < g n = subst (λ (x : ℕ). f x < g x) e s in omega (arith, rest)
    go (no e) ih = omega (arith, h n (omega arith), ih (omega arith))

pub total_add : (n : ℕ) (f g : ℕ → ℕ) → total n (λ v. f v + g v) ≡ total n f + total n g
total_add zero f g = omega arith
total_add (suc n) f g = omega (arith, total_add n f g)

pub total_same : (n : ℕ) (f g : ℕ → ℕ) → ((v : ℕ) → v < n → f v ≡ g v) → total n f ≡ total n g
total_same zero f g h = refl
total_same (suc n) f g h = omega (arith, h n (omega arith), total_same n f g (λ v l. h v (omega arith)))

pub bit_most : (b : Bool) → bit b ≤ 1
bit_most true = omega arith
bit_most false = omega arith

-- One number more.
pub count_more : (set : ℕ → Bool) (i : ℕ) → count (i + 1) set ≡ bit (set i) + count i set
count_more set i = rw (add-one i)

-- A longer stretch holds no fewer.
pub count_rise : (set : ℕ → Bool) (i j : ℕ) → i ≤ j → count i set ≤ count j set
count_rise set i zero h = let e : i ≡ 0 = omega arith in rw e (omega arith)
count_rise set i (suc j) h = go (ℕ_discrete i (suc j)) (λ l. count_rise set i j l)
  where
    go : Dec (i ≡ suc j) → (i ≤ j → count i set ≤ count j set) → count i set ≤ count (suc j) set
    go (yes e) ih = rw e (omega arith)
    go (no n) ih = omega (arith, ih (omega arith))

-- A set has at most as many numbers as there are.
pub count_most : (n : ℕ) (set : ℕ → Bool) → count n set ≤ n
count_most zero set = omega arith
count_most (suc n) set = omega (arith, bit_most (set n), count_most n set)

-- None of the numbers is in the set; all are; all must be, if they are counted so.
pub count_none : (n : ℕ) (set : ℕ → Bool) → ((v : ℕ) → v < n → set v ≡ false) → count n set ≡ 0
count_none zero set h = refl
count_none (suc n) set h = rw (h n (omega arith)) (omega (arith, count_none n set (λ v l. h v (omega arith))))

pub count_all : (n : ℕ) (set : ℕ → Bool) → ((v : ℕ) → v < n → set v ≡ true) → count n set ≡ n
count_all zero set h = refl
count_all (suc n) set h = rw (h n (omega arith)) (omega (arith, count_all n set (λ v l. h v (omega arith))))

pub count_full : (n : ℕ) (set : ℕ → Bool) → count n set ≡ n → (v : ℕ) → v < n → set v ≡ true
count_full zero set e v h = absurd (omega arith)
count_full (suc n) set e v h = go (ℕ_discrete v n) (set n) refl (λ f k. count_full n set f v k)
  where
    go : Dec (v ≡ n) → (b : Bool) → set n ≡ b → (count n set ≡ n → v < n → set v ≡ true) → set v ≡ true
    go (yes f) true g ih = rw f g
    go (no f) true g ih = ih (omega (arith, rw g at e)) (omega arith)
    go d false g ih = absurd (omega (arith, rw g at e, count_most n set))

-- One number more is in the second set than in the first.
pub count_one_more : (n : ℕ) (f g : ℕ → Bool) (u : ℕ) → u < n → f u ≡ false → g u ≡ true → ((v : ℕ) → v ≢ u → g v ≡ f v) → count n g ≡ count n f + 1
count_one_more zero f g u l a b h = absurd (omega arith)
count_one_more (suc n) f g u l a b h = go (ℕ_discrete u n) (λ k. count_one_more n f g u k a b h)
  where
    go : Dec (u ≡ n) → (u < n → count n g ≡ count n f + 1) → count (suc n) g ≡ count (suc n) f + 1
    go (yes e) ih =
        let same : count n g ≡ count n f = total_same n _ _ (λ v k. rw (h v (λ (x : v ≡ u). omega arith))) in
        let gone : f n ≡ false = rw e at a in
        let there : g n ≡ true = rw e at b in
        rw (gone, there) (omega arith)
    go (no m) ih = rw (h n (λ (x : n ≡ u). m (sym x))) (omega (arith, ih (omega arith)))

-- Those in one of two sets are at most those of both.
bit_or : (b c : Bool) → bit (b || c) ≤ bit b + bit c
bit_or true c = omega arith
bit_or false c = omega arith

pub count_or : (n : ℕ) (f g : ℕ → Bool) → count n (λ u. f u || g u) ≤ count n f + count n g
count_or zero f g = omega arith
count_or (suc n) f g = omega (arith, bit_or (f n) (g n), count_or n f g)

-- At most one number equals v.
pub count_equal : (n v : ℕ) → count n (λ u. eqb v u) ≤ 1
count_equal zero v = omega arith
count_equal (suc n) v = go (ℕ_discrete v n) (count_equal n v)
  where
    go : Dec (v ≡ n) → count n (λ u. eqb v u) ≤ 1 → bit (eqb v n) + count n (λ u. eqb v u) ≤ 1
    go (yes e) h =
        let none = count_none n (λ u. eqb v u) (λ u l. ne_eqb v u (λ (x : v ≡ u). omega arith)) in
        omega (arith, none, bit_most (eqb v n))
    go (no m) h = rw (ne_eqb v n m) (omega arith)
