-- When a plan meets the published definition.
-- Assumes nothing.
use Rattle.std.specs.Prelude.{ℕ, ◌+◌, ◌/◌, ◌<◌, ◌≤◌, ◌≡◌, ◌⊎◌, List, length, get_or}
use Rattle.network.specs.Lines.{network}
use Rattle.network.specs.Orders.{EachOnce}
use Rattle.plans.specs.Orders.{order_of, position_of}
use Rattle.plans.specs.Published.{Greedy}

-- Line p is in play in round i: its rank is 0 or at least i.
abbrev pub InPlay : List ℕ → ℕ → ℕ → Type 0
InPlay ranks i p = (get_or ranks p 0 ≡ 0) ⊎ (i ≤ get_or ranks p 0)

-- Line p has rank i.
abbrev pub OfRank : List ℕ → ℕ → ℕ → Type 0
OfRank ranks i p = get_or ranks p 0 ≡ i

-- Round i: its order has each station once, and its rank-i lines, numbered by the order, meet the definition in the lines in play.
pub record RoundMeets (n : ℕ) (lines ranks : List ℕ) (i : ℕ) (order : List ℕ) : Type 0 where
  pub each_once : EachOnce n order
  pub greedy : Greedy (network n lines) (InPlay ranks i) (OfRank ranks i) (position_of n order)

-- No rank is above k, and each round meets the definition.
pub record PlanMeets (n k : ℕ) (lines ranks orders : List ℕ) : Type 0 where
  pub ranks_most : (p : ℕ) → p < length lines / 2 → get_or ranks p 0 ≤ k
  pub rounds : (i : ℕ) → i < k → RoundMeets n lines ranks (i + 1) (order_of n orders i)
