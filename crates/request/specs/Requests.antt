-- What is known of a request that is not refused.
-- Assumes nothing.
use Rattle.std.specs.Prelude.{ℕ, ◌<◌, ◌≤◌, ◌≡◌, Bool, false, List, length, get_or}
use Rattle.network.specs.Lines.{Within}
use Rattle.network.specs.Faults.{Sound}

-- The sizes are right, and no lent buffer is short.
pub record Sized (n k : ℕ) (lines starts : List ℕ) (short : Bool) : Type 0 where
  pub within : Within n lines
  pub some : 1 ≤ k
  pub most : k ≤ 16
  pub starts_count : length starts ≡ k
  pub room : short ≡ false

-- The sizes are right, the list is sound, and every start is a station.
pub record Request (n k : ℕ) (lines starts : List ℕ) (short : Bool) : Type 0 where
  pub sized : Sized n k lines starts short
  pub sound : Sound n lines
  pub starts_in : (index : ℕ) → index < k → get_or starts index 0 < n
