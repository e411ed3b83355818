-- What may be searched, and what the search's answers mean: a network that stands, and the first set that parts one that does not.
-- Assumes nothing.
use Rattle.std.specs.Prelude.{ℕ, ◌<◌, ◌≤◌, ◌≡◌, Bool, List, length, get_or}
use Rattle.laws.specs.Count.{count}
use Rattle.network.specs.Faults.{Sound}
use Rattle.pieces.specs.Joined.{Whole}
use Rattle.pieces.specs.Away.{is_away, Rising}
use Rattle.parting.specs.Parts.{Parts}

-- A sound list, and a level from 1 to 3.
pub record Searchable (n k : ℕ) (lines : List ℕ) : Type 0 where
  pub sound : Sound n lines
  pub some : 1 ≤ k
  pub most : k ≤ 3

-- "No set of fewer than k stations, taken away, leaves two stations not joined."
pub record StandsAt (n k : ℕ) (lines : List ℕ) : Type 0 where
  pub whole : (away : ℕ → Bool) → count n away < k → Whole n lines away

-- A set of stations that is tried at level k: fewer than k, in rising order.
pub record Tried (n k : ℕ) (spot : List ℕ) : Type 0 where
  pub few : length spot < k
  pub rising : Rising n spot

-- A set is tried before another: it has fewer stations, or as many and a smaller first number, or the same first and a smaller second.
pub data Earlier (one two : List ℕ) : Type 0 where
  fewer : length one < length two → Earlier one two
  first : length one ≡ length two → get_or one 0 0 < get_or two 0 0 → Earlier one two
  second : length one ≡ length two → get_or one 0 0 ≡ get_or two 0 0 → get_or one 1 0 < get_or two 1 0 → Earlier one two

-- The weak spot of a network: it parts a from b, and no set tried before it parts any two.
pub record IsWeakSpot (n k : ℕ) (lines spot : List ℕ) (a b : ℕ) : Type 0 where
  pub tried : Tried n k spot
  pub parts : Parts n lines (is_away spot) a b
  pub none_earlier : (other : List ℕ) → Tried n k other → Earlier other spot → Whole n lines (is_away other)
