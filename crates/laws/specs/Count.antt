-- Counting: sums over the numbers below a bound, and the size of a set of numbers.
-- Assumes nothing.
use Rattle.std.specs.Prelude.{ℕ, zero, suc, ◌+◌, Bool, true, false}

-- The sum of f over the numbers below n.
abbrev pub total : ℕ → (ℕ → ℕ) → ℕ
total zero f = 0
total (suc n) f = f n + total n f

-- One for a number that is in a set, else nothing.
abbrev pub bit : Bool → ℕ
bit true = 1
bit false = 0

-- How many numbers below n are in the set.
abbrev pub count : ℕ → (ℕ → Bool) → ℕ
count n set = total n (λ v. bit (set v))
