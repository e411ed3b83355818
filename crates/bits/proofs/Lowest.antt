-- The laws of the lowest number that passes a test, found a word at a time: the words' bits tell what the test says of the numbers, 64 to a
-- word. They serve 'in the set', 'not in it', and 'in the one and not in the other'. Assumes nothing.
use Prim.Native.Nat.{ℕ, zero, suc, ◌+◌, ◌-◌, ◌*◌, ◌/◌, ◌%◌, ◌^◌, ◌<◌}
use mathlib.Core.Path.{◌≡◌, refl, sym, ap, subst, ◌∙◌}
use mathlib.Core.Bool.{Bool, true, false, not, ◌&&◌}
use mathlib.Core.List.{List}
use mathlib.Core.Logic.{◌≢◌}
use native.Mathlib.Nat.{zero-div, pow-suc}
use native.Mathlib.Decide.{dec_lt}
use native.Mathlib.Omega.{arith}
use lib.Dec.{eqb}
use lib.Count.{count_trailing_zeros, under}
use lib.Pow.{shr-shr}
use lib.Bits.{bit_and, and_shr, and_mod, and_le_l}
use lib.ListN.{get_or}
use Rattle.laws.specs.Fold.{lowest}
use Rattle.laws.proofs.Fold.{first_at, first_last}
use Rattle.bits.specs.Sets.{is_in, has_bit, Tells}

shr_suc : (word t : ℕ) → word / 2 ^ suc t ≡ word / 2 / 2 ^ t
shr_suc word t = sym (shr-shr word 1 t ∙ ap (λ (x : ℕ). word / 2 ^ x) (omega arith))

-- A word of k bits that is not 0 has a bit, at the number of zeros below it; the bits below that are 0.
trailing_in : (k word : ℕ) → word < 2 ^ k → 0 < word → count_trailing_zeros k word < k
unfolding count_trailing_zeros
trailing_in zero word h p = absurd (omega arith)
trailing_in (suc k) word h p = go (word % 2) refl (λ q. trailing_in k (word / 2) (omega (arith, pow-suc 2 k)) q)
  where
    go : (d : ℕ) → word % 2 ≡ d → (0 < word / 2 → count_trailing_zeros k (word / 2) < k) → under d (count_trailing_zeros k (word / 2)) < suc k
    go zero e ih = omega (arith, ih (omega arith))
    go (suc d) e ih = omega arith

trailing_set : (k word : ℕ) → count_trailing_zeros k word < k → word / 2 ^ count_trailing_zeros k word % 2 ≡ 1
unfolding count_trailing_zeros
trailing_set zero word h = absurd (omega arith)
trailing_set (suc k) word h = go (word % 2) refl h (λ q. trailing_set k (word / 2) q)
  where
    go : (d : ℕ) → word % 2 ≡ d → under d (count_trailing_zeros k (word / 2)) < suc k
        → (count_trailing_zeros k (word / 2) < k → word / 2 / 2 ^ count_trailing_zeros k (word / 2) % 2 ≡ 1) → word / 2 ^ under d (count_trailing_zeros k (word / 2)) % 2 ≡ 1
    go zero e l ih = rw (shr_suc word (count_trailing_zeros k (word / 2))) (ih (omega arith))
    go (suc d) e l ih = omega arith

trailing_low : (k word j : ℕ) → j < count_trailing_zeros k word → word / 2 ^ j % 2 ≡ 0
unfolding count_trailing_zeros
trailing_low zero word j h = absurd (omega arith)
trailing_low (suc k) word j h = go j (word % 2) refl h (λ i q. trailing_low k (word / 2) i q)
  where
    go : (j d : ℕ) → word % 2 ≡ d → j < under d (count_trailing_zeros k (word / 2))
        → ((i : ℕ) → i < count_trailing_zeros k (word / 2) → word / 2 / 2 ^ i % 2 ≡ 0) → word / 2 ^ j % 2 ≡ 0
    go zero zero e l ih = omega arith
    go (suc j) zero e l ih = rw (shr_suc word j) (ih j (omega arith))
    go j (suc d) e l ih = absurd (omega arith)

-- A word of k bits turned over has just the bits that the word has not.
turned_bit : (k word j : ℕ) → word < 2 ^ k → j < k → ((2 ^ k - 1) - word) / 2 ^ j % 2 ≡ 1 - word / 2 ^ j % 2
turned_bit zero word j h l = absurd (omega arith)
turned_bit (suc k) word zero h l = omega (arith, pow-suc 2 k)
turned_bit (suc k) word (suc j) h l =
    let half : ((2 ^ suc k - 1) - word) / 2 ≡ (2 ^ k - 1) - word / 2 = omega (arith, pow-suc 2 k) in
    rw (shr_suc ((2 ^ suc k - 1) - word) j, shr_suc word j, half) (turned_bit k (word / 2) j (omega (arith, pow-suc 2 k)) (omega arith))

not_bit : (word j : ℕ) → word < 2 ^ 64 → j < 64 → not (has_bit word j) ≡ has_bit ((2 ^ 64 - 1) - word) j
not_bit word j h l = rw (turned_bit 64 word j h l) (go (word / 2 ^ j % 2) (omega arith))
  where
    go : (x : ℕ) → x < 2 → not (eqb x 1) ≡ eqb (1 - x) 1
    go zero h = refl
    go (suc zero) h = refl
    go (suc (suc x)) h = absurd (omega arith)

-- Two words' common bits.
and_bit : (word other j : ℕ) → (has_bit word j && has_bit other j) ≡ has_bit (bit_and word other) j
and_bit word other j =
    go (word / 2 ^ j % 2) (other / 2 ^ j % 2) (omega arith) (omega arith)
    ∙ ap (λ (x : ℕ). eqb x 1) (sym (ap (◌% 2) (and_shr word other j) ∙ and_mod (word / 2 ^ j) (other / 2 ^ j) 1))
  where
    go : (x y : ℕ) → x < 2 → y < 2 → (eqb x 1 && eqb y 1) ≡ eqb (bit_and x y) 1
    go zero y h l = refl
    go (suc zero) zero h l = refl
    go (suc zero) (suc zero) h l = refl
    go (suc zero) (suc (suc y)) h l = absurd (omega arith)
    go (suc (suc x)) y h l = absurd (omega arith)

-- No number of the words before i passes.
pub record NoneBefore (test : ℕ → Bool) (i : ℕ) : Type 0 where
  pub none : (v : ℕ) → v < 64 * i → test v ≡ false

module _ {test : ℕ → Bool} {i word : ℕ} (told : Tells test i word) (before : NoneBefore test i) where
  -- none below the number of bit j, if word i has no lower bit
  none_below : (j : ℕ) → j < 65 → ((b : ℕ) → b < j → word / 2 ^ b % 2 ≡ 0) → (v : ℕ) → v < 64 * i + j → test v ≡ false
  none_below j l low v h = go (dec_lt v (64 * i))
    where
      go : Dec (v < 64 * i) → test v ≡ false
      go (yes k) = before.none v k
      go (no m) =
          let is : 64 * i + (v - 64 * i) ≡ v = omega arith in
          subst (λ (x : ℕ). test x ≡ false) is (told.bit (v - 64 * i) (omega arith) ∙ rw (low (v - 64 * i) (omega arith)))

  -- word i is 0: none passes in it either
  pub none_here : word ≡ 0 → NoneBefore test (i + 1)
  none_here e = record { none = λ v h. none_below 64 (omega arith) (λ b l. rw (e, zero-div (2 ^ b))) v (omega arith) }

  -- word i is not 0: its lowest bit is the lowest number's
  pub lowest_here : {count : ℕ} → i < count → word ≢ 0 → 64 * i + count_trailing_zeros 64 word ≡ lowest test (64 * count) (64 * count)
  lowest_here {count} l some =
      sym (first_at test (λ x. x) (64 * count) (64 * count) (64 * i + count_trailing_zeros 64 word) (omega (arith, inside)) passes
      (none_below (count_trailing_zeros 64 word) (omega (arith, inside)) (λ b h. trailing_low 64 word b h)))
    where
      inside : count_trailing_zeros 64 word < 64
      inside = trailing_in 64 word told.fits (omega arith)

      passes : test (64 * i + count_trailing_zeros 64 word) ≡ true
      passes = told.bit (count_trailing_zeros 64 word) inside ∙ rw (trailing_set 64 word inside)

-- No number of all the words passes.
pub lowest_nowhere : {test : ℕ → Bool} {count : ℕ} → NoneBefore test count → 64 * count ≡ lowest test (64 * count) (64 * count)
lowest_nowhere {test} {count} before = sym (first_last test (λ x. x) (64 * count) (64 * count) before.none)

-- What the words' bits tell: which numbers are in a set, which are not, and which are in one set and not in another.
in_bit : (words : List ℕ) (i j : ℕ) → j < 64 → is_in words (64 * i + j) ≡ has_bit (get_or words i 0) j
unfolding is_in
in_bit words i j l =
    let word : (64 * i + j) / 64 ≡ i = omega arith in
    let bit : (64 * i + j) % 64 ≡ j = omega arith in
    rw (word, bit)

out_bit : (words : List ℕ) (i j : ℕ) → get_or words i 0 < 2 ^ 64 → j < 64 → not (is_in words (64 * i + j)) ≡ has_bit ((2 ^ 64 - 1) - get_or words i 0) j
out_bit words i j fits l = ap not (in_bit words i j l) ∙ not_bit (get_or words i 0) j fits l

module _ (words : List ℕ) (i : ℕ) (fits : get_or words i 0 < 2 ^ 64) where
  pub in_tells : Tells (is_in words) i (get_or words i 0)
  in_tells = record { fits = fits; bit = in_bit words i }

  pub out_tells : Tells (λ x. not (is_in words x)) i ((2 ^ 64 - 1) - get_or words i 0)
  out_tells = record { fits = omega arith; bit = λ j l. out_bit words i j fits l }

  pub without_tells : (others : List ℕ) → get_or others i 0 < 2 ^ 64
      → Tells (λ x. is_in words x && not (is_in others x)) i (bit_and (get_or words i 0) ((2 ^ 64 - 1) - get_or others i 0))
  without_tells others fit =
      record {
        fits = omega (arith, and_le_l (get_or words i 0) ((2 ^ 64 - 1) - get_or others i 0));
        bit = λ j l. rw (in_bit words i j l, out_bit others i j fit l) (and_bit (get_or words i 0) ((2 ^ 64 - 1) - get_or others i 0) j);
      }
