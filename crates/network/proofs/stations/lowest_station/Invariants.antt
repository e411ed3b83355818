-- The loop's invariant in `network::lowest_station`: whatever the test tells of, the first station from v on that passes is the first of all.
use Prim.Native.Nat.{ℕ, ◌-◌, ◌<◌}
use mathlib.Core.Path.{◌≡◌}
use mathlib.Core.Bool.{Bool}
use Rattle.laws.specs.Fold.{first_from}
use Rattle.kinds.specs.declared.Station.{Station}
use Rattle.network.proofs.stations.lowest_station.Given as goal

abbrev pub invariant-loop-v : goal.invariant-loop-v
invariant-loop-v g l = (passes : ℕ → Bool) → ((v : Station) (b : Bool) → v.0 < l.n → goal.F-post g l.test v b → b ≡ passes v.0)
    → first_from passes (λ v. v) l.n l.fn.from.0 (l.n - l.fn.from.0) ≡ first_from passes (λ v. v) l.n l.v (l.n - l.v)
