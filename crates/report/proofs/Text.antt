-- The digits of a number: the code's own way of making them, and how many there are.
-- Assumes nothing.
use Prim.Native.Nat.{ℕ, zero, suc, ◌+◌, ◌/◌, ◌%◌, ◌^◌, ◌≤◌, ◌<◌}
use mathlib.Core.Path.{◌≡◌, refl, ap}
use mathlib.Core.Bool.{Bool, true, false}
use mathlib.Core.Logic.{◌≢◌}
use mathlib.Core.List.{List, [], ◌∷◌, ◌++◌}
use native.Mathlib.Omega.{arith}
use native.Mathlib.Nat.{pow-suc}
use native.Mathlib.Decide.{dec_lt}
use lib.ListN.{length, get_or, length-append}
use lib.Dec.{ltb}
use borrow.Author.Tests.{lt-ltb, le-ltb, ltb-false, eq-eqb, ne_eqb}
use Rattle.laws.specs.Fold.{pick}
use Rattle.network.specs.Lines.{end_one, end_two}
use Rattle.report.specs.Text.{digits, decimal, line_text, row_text}

-- A bound above x is enough.
digits_enough : (f g x : ℕ) → x < f → x < g → digits f x ≡ digits g x
unfolding digits
digits_enough zero g x h k = absurd (omega arith)
digits_enough (suc f) zero x h k = absurd (omega arith)
digits_enough (suc f) (suc g) x h k = go (ltb x 10) refl (λ l m. digits_enough f g (x / 10) l m)
  where
    go : (b : Bool) → ltb x 10 ≡ b → (x / 10 < f → x / 10 < g → digits f (x / 10) ≡ digits g (x / 10))
        → pick b ((48 + x) ∷ []) (digits f (x / 10) ++ ((48 + x % 10) ∷ [])) ≡ pick b ((48 + x) ∷ []) (digits g (x / 10) ++ ((48 + x % 10) ∷ []))
    go true e ih = refl
    go false e ih = let l = ltb-false x 10 e in ap (λ (d : List ℕ). d ++ ((48 + x % 10) ∷ [])) (ih (omega arith) (omega arith))

-- A number below 10 is one digit.
pub decimal_one : (x : ℕ) → x < 10 → decimal x ≡ (48 + x) ∷ []
unfolding decimal digits
decimal_one x h = rw (lt-ltb x 10 h)

-- A larger one is the digits of x / 10, then x % 10.
pub decimal_more : (x : ℕ) → 10 ≤ x → decimal x ≡ decimal (x / 10) ++ ((48 + x % 10) ∷ [])
unfolding decimal digits
decimal_more x h = rw (le-ltb x 10 h) (ap (λ (d : List ℕ). d ++ ((48 + x % 10) ∷ [])) (digits_enough x (suc (x / 10)) (x / 10) (omega arith) (omega arith)))

-- A number below 10 ^ k has at most k digits, if k is not 0.
pub decimal_most : (k x : ℕ) → x < 10 ^ suc k → length (decimal x) ≤ suc k
decimal_most zero x h = rw (decimal_one x h) (omega arith)
decimal_most (suc k) x h = go (dec_lt x 10) (λ l. decimal_most k (x / 10) l)
  where
    go : Dec (x < 10) → (x / 10 < 10 ^ suc k → length (decimal (x / 10)) ≤ suc k) → length (decimal x) ≤ suc (suc k)
    go (yes l) ih = rw (decimal_one x l) (omega arith)
    go (no n) ih = rw (decimal_more x (omega arith)) (simp length-append (omega (arith, ih (omega (arith, pow-suc 10 (suc k), h)))))

-- A usize has at most 20 digits, a u16 5, a u8 3.
pub wide_most : (x : ℕ) → x < 2 ^ 64 → length (decimal x) ≤ 20
wide_most x h = decimal_most 19 x (omega arith)

pub short_most : (x : ℕ) → x < 2 ^ 16 → length (decimal x) ≤ 5
short_most x h = decimal_most 4 x (omega arith)

pub byte_most : (x : ℕ) → x < 2 ^ 8 → length (decimal x) ≤ 3
byte_most x h = decimal_most 2 x (omega arith)

-- A line of rank 0 has no row; any other has one.
pub row_none : (lines ranks : List ℕ) (p : ℕ) → get_or ranks p 0 ≡ 0 → row_text lines ranks p ≡ []
unfolding row_text
row_none lines ranks p e = rw (eq-eqb _ _ e)

pub row_some : (lines ranks : List ℕ) (p : ℕ) → get_or ranks p 0 ≢ 0 → row_text lines ranks p ≡ line_text (get_or ranks p 0) p (end_one lines p) (end_two lines p)
unfolding row_text
row_some lines ranks p n = rw (ne_eqb _ _ n)
