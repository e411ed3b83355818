-- What refusals 10 and 11 are about: that the list of stations taken away rises, and the stations that may be asked about.
-- Assumes nothing.
use Rattle.std.specs.Prelude.{ℕ, ◌-◌, ◌<◌, List, get_or}
use Rattle.network.specs.Faults.{Sound}
use Rattle.pieces.specs.Away.{is_away, Rising}
use Rattle.pieces.specs.Joined.{Remains}

-- The number at index j is below n, and above the one before it, if there is one.
pub record RisesAt (n : ℕ) (away : List ℕ) (j : ℕ) : Type 0 where
  pub below : get_or away j 0 < n
  pub above : 0 < j → get_or away (j - 1) 0 < get_or away j 0

-- What may be asked: a sound network, a rising list, and two stations that remain.
pub record Question (n : ℕ) (lines away : List ℕ) (a b : ℕ) : Type 0 where
  pub sound : Sound n lines
  pub rising : Rising n away
  pub first : Remains n (is_away away) a
  pub second : Remains n (is_away away) b
