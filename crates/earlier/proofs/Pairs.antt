-- The memory of lines: pairs have different numbers unless they are the same pair, so that putting one number into the set
-- remembers just one pair more. Assumes nothing.
use Prim.Native.Nat.{ℕ, zero, suc, ◌+◌, ◌-◌, ◌*◌, ◌/◌, ◌<◌, ◌≤◌}
use mathlib.Core.Path.{◌≡◌, refl, sym, ◌∙◌}
use mathlib.Core.Bool.{Bool, true, false, ◌||◌, or_comm}
use mathlib.Core.List.{List}
use mathlib.Core.Logic.{◌≢◌, ◌⊎◌, ◌⊎◌.inl, ◌⊎◌.inr}
use native.Mathlib.Nat.{suc-mul, mul-suc}
use native.Mathlib.Decide.{ℕ_discrete, dec_lt}
use native.Mathlib.Omega.{arith}
use borrow.Author.Tests.{lt-ltb, le-ltb, eqb-true, eqb-false}
use lib.Dec.{eqb}
use lib.ListN.{length, replicate, length-replicate}
use Rattle.bits.specs.Sets.{is_in, put_in}
use Rattle.bits.proofs.Sets.{in_put, in_none, length_put}
use Rattle.network.specs.Judging.{same_ends}
use Rattle.earlier.specs.Pairs.{pairs_of, pair_at, pair_number, Remembers}
use Rattle.network.proofs.Ends.{same_ends_lem, ends_same}

pairs_next : (h : ℕ) → pairs_of (suc h) ≡ pairs_of h + h
pairs_next zero = refl
pairs_next (suc g) =
    let e : suc g - 1 ≡ g = omega arith in
    let f : suc (suc g) - 1 ≡ suc g = omega arith in
    rw (e, f) (omega (arith, suc-mul (suc g) (suc g), mul-suc (suc g) g))

pairs_rise : (h k : ℕ) → h ≤ k → pairs_of h ≤ pairs_of k
pairs_rise h zero l = let e : h ≡ 0 = omega arith in rw e (omega arith)
pairs_rise h (suc k) l = go (ℕ_discrete h (suc k)) (λ m. pairs_rise h k m)
  where
    go : Dec (h ≡ suc k) → (h ≤ k → pairs_of h ≤ pairs_of k) → pairs_of h ≤ pairs_of (suc k)
    go (yes e) ih = rw e (omega arith)
    go (no n) ih = omega (arith, ih (omega arith), pairs_next k)

-- The pair's number stands among those of its higher station.
pair_above : (low high : ℕ) → pairs_of high ≤ pair_at low high
unfolding pair_at
pair_above low high = omega arith

pair_below : (low high top : ℕ) → low < high → high < top → pair_at low high < pairs_of top
unfolding pair_at
pair_below low high top l h = omega (arith, pairs_next high, pairs_rise (suc high) top (omega arith))

same_higher : (low low' high : ℕ) → pair_at low high ≡ pair_at low' high → low ≡ low'
unfolding pair_at
same_higher low low' high e = omega arith

-- One number, one pair.
pair_once : (low high low' high' : ℕ) → low < high → low' < high' → pair_at low high ≡ pair_at low' high' → (low ≡ low') × (high ≡ high')
pair_once low high low' high' l l' e = go (dec_lt high high') (dec_lt high' high)
  where
    equal : high ≡ high' → (low ≡ low') × (high ≡ high')
    equal f = (same_higher low low' high (e ∙ rw (← f)), f)

    go : Dec (high < high') → Dec (high' < high) → (low ≡ low') × (high ≡ high')
    go (yes h) d = absurd (omega (arith, pair_below low high high' l h, pair_above low' high'))
    go (no n) (yes h) = absurd (omega (arith, pair_below low' high' high l' h, pair_above low high))
    go (no n) (no m) = equal (omega arith)

-- The two ways to write a pair, as its number sees them.
pub pair_lower : (a b : ℕ) → a < b → pair_number a b ≡ pair_at a b
unfolding pair_number
pair_lower a b h = rw (lt-ltb a b h)

pub pair_higher : (a b : ℕ) → b ≤ a → pair_number a b ≡ pair_at b a
unfolding pair_number
pair_higher a b h = rw (le-ltb a b h)

pair_turned : (a b : ℕ) → a ≢ b → pair_number a b ≡ pair_number b a
pair_turned a b n = go (dec_lt a b)
  where
    go : Dec (a < b) → pair_number a b ≡ pair_number b a
    go (yes h) = pair_lower a b h ∙ sym (pair_higher b a (omega arith))
    go (no m) = pair_higher a b (omega arith) ∙ sym (pair_lower b a (omega arith))

-- Two pairs with one number are the same pair.
number_once : (a b c d : ℕ) → a ≢ b → c ≢ d → pair_number a b ≡ pair_number c d → ((a ≡ c) × (b ≡ d)) ⊎ ((a ≡ d) × (b ≡ c))
number_once a b c d n m e = go (dec_lt a b) (dec_lt c d)
  where
    go : Dec (a < b) → Dec (c < d) → ((a ≡ c) × (b ≡ d)) ⊎ ((a ≡ d) × (b ≡ c))
    go (yes h) (yes k) = inl (pair_once a b c d h k (cc (pair_lower a b h, pair_lower c d k)))
    go (yes h) (no k) = inr (pair_once a b d c h (omega arith) (cc (pair_lower a b h, pair_higher c d (omega arith))))
    go (no h) (yes k) = let (x, y) = pair_once b a c d (omega arith) k (cc (pair_higher a b (omega arith), pair_lower c d k)) in inr (y, x)
    go (no h) (no k) =
        let (x, y) = pair_once b a d c (omega arith) (omega arith) (cc (pair_higher a b (omega arith), pair_higher c d (omega arith))) in
        inl (y, x)

once_number : (a b c d : ℕ) → a ≢ b → ((a ≡ c) × (b ≡ d)) ⊎ ((a ≡ d) × (b ≡ c)) → pair_number c d ≡ pair_number a b
once_number a b c d n (inl (x, y)) = rw (x, y)
once_number a b c d n (inr (x, y)) = rw (← x, ← y) (sym (pair_turned a b n))

-- Comparing numbers is comparing pairs.
number_test : (a b c d : ℕ) → a ≢ b → c ≢ d → eqb (pair_number c d) (pair_number a b) ≡ same_ends a b c d
number_test a b c d n m = go (eqb (pair_number c d) (pair_number a b)) (same_ends a b c d) refl refl
  where
    go : (x y : Bool) → eqb (pair_number c d) (pair_number a b) ≡ x → same_ends a b c d ≡ y → x ≡ y
    go true true e f = refl
    go false false e f = refl
    go true false e f =
        sym (sym f ∙ ends_same a b c d (number_once a b c d n m (sym (eqb-true (pair_number c d) (pair_number a b) e))))
    go false true e f = absurd (eqb-false (pair_number c d) (pair_number a b) e (once_number a b c d n (same_ends_lem a b c d f)))

-- Words with a bit for each pair of n stations have one for this pair.
number_fits : (n words a b : ℕ) → pairs_of n ≤ 64 * words → a < n → b < n → a ≢ b → pair_number a b / 64 < words
number_fits n words a b room h k m = go (dec_lt a b)
  where
    go : Dec (a < b) → pair_number a b / 64 < words
    go (yes l) = omega (arith, pair_lower a b l, pair_below a b n l k)
    go (no l) = omega (arith, pair_higher a b (omega arith), pair_below b a n (omega arith) h)

-- An empty set remembers nothing.
pub remember_none : (n words : ℕ) → pairs_of n ≤ 64 * words → Remembers n (replicate words 0) (λ a b. false)
remember_none n words room =
    record { room = omega (arith, length-replicate {A = ℕ} words 0); exactly = λ a b h k m. in_none words (pair_number a b) }

-- Putting in the pair c d remembers one pair more.
pub remember_more : {n : ℕ} {pairs : List ℕ} {stood : ℕ → ℕ → Bool} → Remembers n pairs stood → (c d : ℕ) → c < n → d < n → c ≢ d
    → Remembers n (put_in pairs (pair_number c d)) (λ a b. stood a b || same_ends a b c d)
remember_more {n} {pairs} {stood} R c d h k o = record { room = omega (arith, R.room, length_put pairs (pair_number c d)); exactly = exactly }
  where
    exactly : (a b : ℕ) → a < n → b < n → a ≢ b → is_in (put_in pairs (pair_number c d)) (pair_number a b) ≡ (stood a b || same_ends a b c d)
    exactly a b ha hb m =
        in_put pairs (pair_number c d) (pair_number a b) (number_fits n (length pairs) c d R.room h k o)
        ∙ rw (number_test a b c d m o, R.exactly a b ha hb m) (or_comm (same_ends a b c d) (stood a b))
