-- What is known of sizes that are not refused.
-- Assumes nothing.
use Prim.Native.Nat.{ℕ, ◌*◌, ◌/◌, ◌%◌, ◌≤◌}
use mathlib.Core.Path.{◌≡◌}
use mathlib.Core.Bool.{false, ◌||◌}
use mathlib.Core.List.{List}
use native.Mathlib.Omega.{arith}
use borrow.Author.Tests.{ltb-false, eqb-false}
use lib.ListN.{length}
use lib.Dec.{ltb, eqb}
use Rattle.laws.proofs.Truth.{neither}
use Rattle.kinds.specs.Answers.{refuse_if, is_refused}
use Rattle.kinds.proofs.Answers.{passed}
use Rattle.limits.specs.Limits.{stations_judged, length_judged, level_judged, weak_level_judged}

-- A number that is refused outside of low to high, and is not refused, is from low to high.
between : (low high x number : ℕ) → is_refused (refuse_if (ltb x low || ltb high x) number 0 0) ≡ false → (low ≤ x) × (x ≤ high)
between low high x number e =
    let (under, over) = neither (ltb x low) (ltb high x) (passed (ltb x low || ltb high x) number 0 0 e) in
    (ltb-false x low under, ltb-false high x over)

pub stations_good : (n : ℕ) → is_refused (stations_judged n) ≡ false → (1 ≤ n) × (n ≤ 1024)
unfolding stations_judged
stations_good n e = between 1 1024 n 1 e

pub length_good : (list : ℕ) (lines : List ℕ) → is_refused (length_judged list lines) ≡ false → (length lines ≡ 2 * (length lines / 2)) × (length lines ≤ 16384)
unfolding length_judged
length_good list lines e =
    let (x, y) = neither (eqb (length lines % 2) 1) (ltb 16384 (length lines)) (passed (eqb (length lines % 2) 1 || ltb 16384 (length lines)) 2 0 list e) in
    let odd : (length lines % 2 ≡ 1 → ⊥) = eqb-false (length lines % 2) 1 x in
    (omega arith, ltb-false 16384 (length lines) y)

pub level_good : (k : ℕ) → is_refused (level_judged k) ≡ false → (1 ≤ k) × (k ≤ 16)
unfolding level_judged
level_good k e = between 1 16 k 3 e

pub weak_level_good : (k : ℕ) → is_refused (weak_level_judged k) ≡ false → (1 ≤ k) × (k ≤ 3)
unfolding weak_level_judged
weak_level_good k e = between 1 3 k 12 e
