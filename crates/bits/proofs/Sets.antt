-- The laws of sets of bits: what is in a set after one number was put in, that nothing is in words of 0, and the same of the definitions' set.
-- Assumes nothing.
use Prim.Native.Nat.{ℕ, zero, suc, ◌+◌, ◌-◌, ◌/◌, ◌%◌, ◌^◌, ◌<◌}
use mathlib.Core.Path.{◌≡◌, refl, sym, ap, ◌∙◌}
use mathlib.Core.Bool.{true, false, ◌||◌}
use mathlib.Core.List.{List}
use mathlib.Core.Logic.{◌≢◌}
use native.Mathlib.Nat.{zero-div, div_self, div-eq_of_lt, pow-suc}
use native.Mathlib.Decide.{ℕ_discrete, dec_lt}
use native.Mathlib.Omega.{arith}
use borrow.Author.Tests.{eq-eqb, ne_eqb}
use lib.Dec.{eqb}
use lib.Pow.{pow_pos, pow-lt, pow-add, shl-shr}
use lib.Bits.{bit_or, or_shr, or_mod, or_zero_r}
use lib.ListN.{length, get_or, set, replicate, length-set, length-replicate}
use lib.Seq.{get_or-set_same, get_or-set_other}
use Rattle.laws.proofs.Lists.{replicate_at}
use Rattle.laws.proofs.Tables.{at_tabulate, is_tabulate, tabulate_set}
use Rattle.bits.specs.Sets.{is_in, put_in, members}

-- Bit j of a word with only bit b.
mask_same : (b : ℕ) → 2 ^ b / 2 ^ b % 2 ≡ 1
mask_same b = rw (div_self (pow_pos b))

mask_below : (j d : ℕ) → 2 ^ (suc d + j) / 2 ^ j % 2 ≡ 0
mask_below j d = rw (pow-add 2 (suc d) j, shl-shr (2 ^ suc d) j, pow-suc 2 d) (omega arith)

mask_other : (b j : ℕ) → j ≢ b → 2 ^ b / 2 ^ j % 2 ≡ 0
mask_other b j n = go (dec_lt j b)
  where
    go : Dec (j < b) → 2 ^ b / 2 ^ j % 2 ≡ 0
    go (yes h) = let e : b ≡ suc (b - j - 1) + j = omega arith in rw e (mask_below j (b - j - 1))
    go (no h) = rw (div-eq_of_lt (pow-lt {i = b} {j = j} (omega arith)))

-- Bit j of a word, after bit b was put in.
or_bit : (w b j : ℕ) → bit_or w (2 ^ b) / 2 ^ j % 2 ≡ bit_or (w / 2 ^ j % 2) (2 ^ b / 2 ^ j % 2)
or_bit w b j = rw (or_shr w (2 ^ b) j) (or_mod (w / 2 ^ j) (2 ^ b / 2 ^ j) 1)

or_one : (x : ℕ) → x < 2 → bit_or x 1 ≡ 1
or_one zero h = refl
or_one (suc zero) h = refl
or_one (suc (suc x)) h = absurd (omega arith)

put_same : (w b : ℕ) → bit_or w (2 ^ b) / 2 ^ b % 2 ≡ 1
put_same w b = or_bit w b b ∙ rw (mask_same b) (or_one (w / 2 ^ b % 2) (omega arith))

put_other : (w b j : ℕ) → j ≢ b → bit_or w (2 ^ b) / 2 ^ j % 2 ≡ w / 2 ^ j % 2
put_other w b j n = or_bit w b j ∙ rw (mask_other b j n) (or_zero_r (w / 2 ^ j % 2))

-- What is in the set after x was put in: x, and what was in it.
pub in_put : (words : List ℕ) (x y : ℕ) → x / 64 < length words → is_in (put_in words x) y ≡ (eqb x y || is_in words y)
unfolding is_in put_in
in_put words x y h = go (ℕ_discrete (y / 64) (x / 64)) (ℕ_discrete (y % 64) (x % 64))
  where
    word : ℕ
    word = bit_or (get_or words (x / 64) 0) (2 ^ (x % 64))

    go : Dec (y / 64 ≡ x / 64) → Dec (y % 64 ≡ x % 64)
        → eqb (get_or (set words (x / 64) word) (y / 64) 0 / 2 ^ (y % 64) % 2) 1 ≡ (eqb x y || eqb (get_or words (y / 64) 0 / 2 ^ (y % 64) % 2) 1)
    go (no n) d = rw (get_or-set_other words (x / 64) (y / 64) word 0 n, ne_eqb x y (λ (e : x ≡ y). n (ap (◌/ 64) (sym e))))
    go (yes e) (yes f) =
        let same : x ≡ y = omega arith in
        rw (e, f, get_or-set_same words (x / 64) word 0 h, put_same (get_or words (x / 64) 0) (x % 64), eq-eqb x y same)
    go (yes e) (no m) =
        rw (e, get_or-set_same words (x / 64) word 0 h, put_other (get_or words (x / 64) 0) (x % 64) (y % 64) m, ne_eqb x y (λ (s : x ≡ y). m (ap (◌% 64) (sym s))))

pub length_put : (words : List ℕ) (x : ℕ) → length (put_in words x) ≡ length words
unfolding put_in
length_put words x = simp length-set

-- Nothing is in words of 0.
pub in_none : (n x : ℕ) → is_in (replicate n 0) x ≡ false
unfolding is_in
in_none n x = rw (replicate_at {A = ℕ} n (x / 64) 0, zero-div (2 ^ (x % 64)))

-- The definitions' set: what it says of a number, that it is empty where all words are 0, and that it has a number that was put in.
pub members_at : (n : ℕ) (words : List ℕ) (v : ℕ) → v < n → get_or (members n words) v false ≡ is_in words v
unfolding members
members_at n words v h = at_tabulate n (is_in words) v false h

pub members_none : (n count : ℕ) → members n (replicate count 0) ≡ replicate n false
unfolding members
members_none n count =
    sym (is_tabulate (replicate n false) n (is_in (replicate count 0)) false (length-replicate n false) (λ v h. replicate_at n v false ∙ sym (in_none count v)))

pub members_put : (n : ℕ) (words : List ℕ) (v : ℕ) → v < n → v / 64 < length words → members n (put_in words v) ≡ set (members n words) v true
unfolding members
members_put n words v h room =
    sym (rw here at (tabulate_set n (is_in words) (is_in (put_in words v)) v h other))
  where
    here : is_in (put_in words v) v ≡ true
    here = in_put words v v room ∙ rw (eq-eqb v v refl)

    other : (w : ℕ) → w ≢ v → is_in (put_in words v) w ≡ is_in words w
    other w m = in_put words v w room ∙ rw (ne_eqb v w (λ (e : v ≡ w). m (sym e)))
