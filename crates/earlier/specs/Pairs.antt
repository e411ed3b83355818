-- How lines are remembered: a set of pairs of stations, by the pair's number, into which each line's pair is put in list order.
-- Only helpers speak of it. Assumes nothing.
use Rattle.std.specs.Prelude.{ℕ, ◌+◌, ◌-◌, ◌*◌, ◌/◌, ◌<◌, ◌≤◌, ◌≡◌, Bool, ◌≢◌, List, length, ltb}
use Rattle.laws.specs.Fold.{pick, up_to}
use Rattle.bits.specs.Sets.{is_in, put_in}
use Rattle.network.specs.Lines.{end_one, end_two}

-- How many pairs n stations make.
abbrev pub pairs_of : ℕ → ℕ
pairs_of n = n * (n - 1) / 2

-- The pairs with this higher station come after all those of the stations below it.
unfoldable pub pair_at : ℕ → ℕ → ℕ
pair_at low high = pairs_of high + low

-- The number of a pair of stations, the same either way round.
unfoldable pub pair_number : ℕ → ℕ → ℕ
pair_number a b = pick (ltb a b) (pair_at a b) (pair_at b a)

-- The number of the pair that the line at place p joins.
abbrev pub pair_of : List ℕ → ℕ → ℕ
pair_of lines p = pair_number (end_one lines p) (end_two lines p)

-- The set has a bit for each pair of n stations, 64 to a word, and holds just the pairs of which the test says that they stood.
pub record Remembers (n : ℕ) (pairs : List ℕ) (stood : ℕ → ℕ → Bool) : Type 0 where
  pub room : pairs_of n ≤ 64 * length pairs
  pub exactly : (a b : ℕ) → a < n → b < n → a ≢ b → is_in pairs (pair_number a b) ≡ stood a b

-- The set with the pair of the line at place p in it too; with those of all lines before place p.
abbrev pub remember_line : List ℕ → ℕ → List ℕ → List ℕ
remember_line lines p pairs = put_in pairs (pair_of lines p)

abbrev pub remembered : List ℕ → List ℕ → ℕ → List ℕ
remembered lines pairs p = up_to (remember_line lines) pairs p

-- The place p is marked if the pair of its line is in the set, which remembers the lines before it too.
unfoldable pub mark_line : List ℕ → List ℕ → ℕ → List ℕ → List ℕ
mark_line lines pairs p again = pick (is_in (remembered lines pairs p) (pair_of lines p)) (put_in again p) again

-- Each line in list order.
abbrev pub marked : List ℕ → List ℕ → List ℕ → ℕ → List ℕ
marked lines pairs again p = up_to (mark_line lines pairs) again p
