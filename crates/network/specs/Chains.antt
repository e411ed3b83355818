-- Chains of lines from station to station.
-- Assumes nothing.
use Rattle.std.specs.Prelude.{ℕ, ◌<◌}
use Rattle.network.specs.Lines.{Network, Joins}

-- Some line of those that are used joins u and v.
pub data Hop (g : Network) (uses : ℕ → Type 0) (u v : ℕ) : Type 0 where
  by : (p : ℕ) → p < g.lines → uses p → Joins g p u v → Hop g uses u v

-- A chain of hops from one station to another, all of whose stations stay.
pub data Chain (hop : ℕ → ℕ → Type 0) (stays : ℕ → Type 0) : ℕ → ℕ → Type 0 where
  here : {u : ℕ} → stays u → Chain hop stays u u
  step : {u v w : ℕ} → stays u → hop u v → Chain hop stays v w → Chain hop stays u w

-- Every line is used; every station stays.
abbrev pub Every : ℕ → Type 0
Every x = Unit {0}
