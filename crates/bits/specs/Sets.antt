-- A set of numbers as single bits in words of 64: number x is bit x % 64 of word x / 64.
-- Assumes nothing.
use Rattle.std.specs.Prelude.{ℕ, ◌+◌, ◌*◌, ◌/◌, ◌%◌, ◌^◌, ◌<◌, ◌≡◌, Bool, List, get_or, set, eqb}
use Rattle.std.specs.Int.Bits.{bit_or}
use Rattle.laws.specs.Tables.{tabulate}

-- Whether x is in the set.
unfoldable pub is_in : List ℕ → ℕ → Bool
is_in words x = eqb (get_or words (x / 64) 0 / 2 ^ (x % 64) % 2) 1

-- The set with x in it too.
unfoldable pub put_in : List ℕ → ℕ → List ℕ
put_in words x = set words (x / 64) (bit_or (get_or words (x / 64) 0) (2 ^ (x % 64)))

-- The set of the numbers below n, as definitions speak of it: for each whether it is in.
unfoldable pub members : ℕ → List ℕ → List Bool
members n words = tabulate n (is_in words)

-- Whether a word has bit j.
abbrev pub has_bit : ℕ → ℕ → Bool
has_bit word j = eqb (word / 2 ^ j % 2) 1

-- The bits of `word` tell what the test says of the 64 numbers of word i.
pub record Tells (test : ℕ → Bool) (i word : ℕ) : Type 0 where
  pub fits : word < 2 ^ 64
  pub bit : (j : ℕ) → j < 64 → test (64 * i + j) ≡ has_bit word j
