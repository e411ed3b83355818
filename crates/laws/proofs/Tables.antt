-- The laws of tables: how long one is, what stands at each place, and when two are the same.
-- Assumes nothing.
use Prim.Native.Nat.{ℕ, zero, suc, ◌<◌}
use mathlib.Core.Path.{◌≡◌, refl, sym, ap, ◌∙◌}
use mathlib.Core.List.{List}
use mathlib.Core.Logic.{◌≢◌}
use native.Mathlib.Decide.{ℕ_discrete}
use native.Mathlib.Omega.{arith}
use lib.ListN.{length, get_or, set, length-set}
use lib.Seq.{ext_get_or, get_or-set_same, get_or-set_other}
use Rattle.laws.specs.Tables.{tabulate}

pub length_tabulate : {A : Type 0} (n : ℕ) (f : ℕ → A) → length (tabulate n f) ≡ n
length_tabulate zero f = refl
length_tabulate (suc n) f = ap suc (length_tabulate n (λ i. f (suc i)))

pub at_tabulate : {A : Type 0} (n : ℕ) (f : ℕ → A) (i : ℕ) (d : A) → i < n → get_or (tabulate n f) i d ≡ f i
at_tabulate zero f i d h = absurd (omega arith)
at_tabulate (suc n) f zero d h = refl
at_tabulate (suc n) f (suc i) d h = at_tabulate n (λ i. f (suc i)) i d (omega arith)

-- A list of n values that are f's is f's table.
pub is_tabulate : {A : Type 0} (l : List A) (n : ℕ) (f : ℕ → A) (d : A) → length l ≡ n → ((i : ℕ) → i < n → get_or l i d ≡ f i) → l ≡ tabulate n f
is_tabulate l n f d size same =
    ext_get_or d l (tabulate n f) (size ∙ sym (length_tabulate n f)) (λ i h. same i (omega arith) ∙ sym (at_tabulate n f i d (omega arith)))

-- A function that differs at u only has the table with the value at u stored.
pub tabulate_set : {A : Type 0} (n : ℕ) (f g : ℕ → A) (u : ℕ) → u < n → ((i : ℕ) → i ≢ u → g i ≡ f i) → set (tabulate n f) u (g u) ≡ tabulate n g
tabulate_set n f g u l other =
    is_tabulate (set (tabulate n f) u (g u)) n g (g u) (length-set (tabulate n f) u (g u) ∙ length_tabulate n f) (λ i h. go i h (ℕ_discrete i u))
  where
    go : (i : ℕ) → i < n → Dec (i ≡ u) → get_or (set (tabulate n f) u (g u)) i (g u) ≡ g i
    go i h (yes e) = rw (e, get_or-set_same (tabulate n f) u (g u) (g u) (omega (arith, length_tabulate n f)))
    go i h (no m) = get_or-set_other (tabulate n f) u i (g u) (g u) m ∙ (at_tabulate n f i (g u) h ∙ sym (other i m))
