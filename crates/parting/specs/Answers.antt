-- What is found, in the document's numbers.
-- Assumes nothing.
use Rattle.std.specs.Prelude.{ℕ, List, [], ◌∷◌, Option, Some, None}
use Rattle.parting.specs.Standing.{Standing, Standing.stands, Standing.weak}
use Rattle.parting.specs.declared.Spot.{Spot}
use Rattle.parting.specs.declared.Spot.TheVariants.{Empty, One, Two}
use Rattle.parting.specs.declared.WeakSpot.{WeakSpot}

-- The stations of a spot, in rising order.
abbrev pub spot_stations : Spot → List ℕ
spot_stations Empty = []
spot_stations (One v) = v.0 ∷ []
spot_stations (Two v w) = v.0 ∷ (w.0 ∷ [])

-- The network stands, or has a weak spot.
abbrev pub found_standing : Option WeakSpot → Standing
found_standing None = stands
found_standing (Some w) = weak (spot_stations w.spot) w.one.0 w.two.0
