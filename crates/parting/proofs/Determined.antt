-- What is found is determined by its numbers.
-- Assumes nothing.
use mathlib.Core.Path.{◌≡◌, refl, ap, ap₂}
use Prim.Native.Nat.{ℕ}
use Rattle.kinds.specs.declared.Station.{Station}
use Rattle.parting.specs.Answers.{spot_stations, found_standing}
use Rattle.parting.specs.declared.Spot.{Spot}
use Rattle.parting.specs.declared.Spot.TheVariants.{Empty, One, Two}
use Rattle.parting.specs.declared.WeakSpot.{WeakSpot}
use Rattle.std.specs.Prelude.{Option, Some, None}

abbrev station : ℕ → Station
station v = record { 0 = v }

spot_determined : (s t : Spot) → spot_stations s ≡ spot_stations t → s ≡ t
spot_determined Empty Empty e = refl
spot_determined Empty (One v) e = cc
spot_determined Empty (Two v w) e = cc
spot_determined (One v) Empty e = cc
spot_determined (One v) (One w) e = let f : v.0 ≡ w.0 = cc in ap (λ x. One (station x)) f
spot_determined (One v) (Two w x) e = cc
spot_determined (Two v w) Empty e = cc
spot_determined (Two v w) (One x) e = cc
spot_determined (Two v w) (Two x y) e =
    let f : v.0 ≡ x.0 = cc in
    let g : w.0 ≡ y.0 = cc in
    ap₂ (λ i j. Two (station i) (station j)) f g

pub found_determined : (x y : Option WeakSpot) → found_standing x ≡ found_standing y → x ≡ y
found_determined None None e = refl
found_determined None (Some w) e = cc
found_determined (Some w) None e = cc
found_determined (Some v) (Some w) e =
    let s : v.spot ≡ w.spot = spot_determined v.spot w.spot (cc) in
    let a : v.one.0 ≡ w.one.0 = cc in
    let b : v.two.0 ≡ w.two.0 = cc in
    ap Some (rw (s, a, b) refl)
