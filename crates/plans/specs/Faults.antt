-- What the check's words mean: the first fault of a plan that does not meet the definition.
-- Assumes nothing.
use Rattle.std.specs.Prelude.{ℕ, ◌+◌, ◌/◌, ◌<◌, ◌≤◌, ◌≡◌, ◌≢◌, List, length, get_or}
use Rattle.network.specs.Lines.{end_one, end_two, network}
use Rattle.network.specs.Chains.{Hop, Chain, Every}
use Rattle.network.specs.Orders.{EachOnce}
use Rattle.plans.specs.Verdicts.{Kind, Kind.A, Kind.B, Kind.C, Kind.D, Kind.E}
use Rattle.plans.specs.Orders.{order_of}
use Rattle.plans.specs.Plans.{InPlay, OfRank, RoundMeets}

-- The entry at position j is a station, and new in the round.
pub record EntryGood (n : ℕ) (order : List ℕ) (j : ℕ) : Type 0 where
  pub station : get_or order j 0 < n
  pub new : (h : ℕ) → h < j → get_or order h 0 ≢ get_or order j 0

-- The entry at position j is n or more, or stood before in the round.
pub data EntryFault (n : ℕ) (order : List ℕ) (j : ℕ) : Type 0 where
  outside : n ≤ get_or order j 0 → EntryFault n order j
  stood : (h : ℕ) → h < j → get_or order h 0 ≡ get_or order j 0 → EntryFault n order j

-- A line in play in round i joins the stations at positions j and h; a line of rank i does.
abbrev pub Beside : ℕ → List ℕ → List ℕ → ℕ → List ℕ → ℕ → ℕ → Type 0
Beside n lines ranks i order j h = Hop (network n lines) (InPlay ranks i) (get_or order j 0) (get_or order h 0)

abbrev pub Tied : ℕ → List ℕ → List ℕ → ℕ → List ℕ → ℕ → ℕ → Type 0
Tied n lines ranks i order j h = Hop (network n lines) (OfRank ranks i) (get_or order j 0) (get_or order h 0)

-- Of the station at position j, the one at h is the earliest of its earlier neighbours in play.
pub record Earliest (n : ℕ) (lines ranks : List ℕ) (i : ℕ) (order : List ℕ) (j h : ℕ) : Type 0 where
  pub earlier : h < j
  pub beside : Beside n lines ranks i order j h
  pub first : (x : ℕ) → x < h → ¬ Beside n lines ranks i order j x

-- The station at position j is not at fault: its line to the earliest of its earlier neighbours in play has rank i, and it has no rank-i line to
-- another earlier station.
pub record StationGood (n : ℕ) (lines ranks : List ℕ) (i : ℕ) (order : List ℕ) (j : ℕ) : Type 0 where
  pub parent : (h : ℕ) → Earliest n lines ranks i order j h → Tied n lines ranks i order j h
  pub no_other : (h : ℕ) → h < j → Tied n lines ranks i order j h → Earliest n lines ranks i order j h

-- The first fault that the station at position j has. C: the line to the earliest of its earlier neighbours in play lacks rank i. Else D: it has a
-- rank-i line to the station at h, which is not the earliest of them, since one stands at x, before h.
pub data StationFault (n : ℕ) (lines ranks : List ℕ) (i : ℕ) (order : List ℕ) (j : ℕ) : Kind → Type 0 where
  parent : (h : ℕ) → Earliest n lines ranks i order j h → ¬ Tied n lines ranks i order j h → StationFault n lines ranks i order j C
  other : ((h : ℕ) → Earliest n lines ranks i order j h → Tied n lines ranks i order j h)
      → (h x : ℕ) → h < j → Tied n lines ranks i order j h → x < h → Beside n lines ranks i order j x → StationFault n lines ranks i order j D

-- The ends of line p are joined by lines of rank i.
abbrev pub EndsJoined : ℕ → List ℕ → List ℕ → ℕ → ℕ → Type 0
EndsJoined n lines ranks i p = Chain (Hop (network n lines) (OfRank ranks i)) Every (end_one lines p) (end_two lines p)

-- The first fault of round i. B: of the entry at a position. C or D: of a station. E: of a line in play, whose ends are not joined by lines of rank i.
pub data RoundFault (n : ℕ) (lines ranks : List ℕ) (i : ℕ) (order : List ℕ) : Kind → (place : ℕ) → Type 0 where
  entry : (j : ℕ) → j < n → ((h : ℕ) → h < j → EntryGood n order h) → EntryFault n order j → RoundFault n lines ranks i order B j
  station : {kind : Kind} → EachOnce n order → (j : ℕ) → j < n → ((h : ℕ) → h < j → StationGood n lines ranks i order h)
      → StationFault n lines ranks i order j kind → RoundFault n lines ranks i order kind (get_or order j 0)
  line : EachOnce n order → ((j : ℕ) → j < n → StationGood n lines ranks i order j)
      → (p : ℕ) → p < length lines / 2 → ((q : ℕ) → q < p → InPlay ranks i q → EndsJoined n lines ranks i q)
      → InPlay ranks i p → ¬ EndsJoined n lines ranks i p → RoundFault n lines ranks i order E p

-- The first fault of a plan: its round, its kind and its own place. A, in round 0: of the line at p, whose rank is above k. Else the first of a round,
-- after rounds that meet the definition.
pub data FirstFault (n k : ℕ) (lines ranks orders : List ℕ) : (round : ℕ) → Kind → (place : ℕ) → Type 0 where
  rank : (p : ℕ) → p < length lines / 2 → ((q : ℕ) → q < p → get_or ranks q 0 ≤ k) → k < get_or ranks p 0 → FirstFault n k lines ranks orders 0 A p
  round : {kind : Kind} {place : ℕ} → ((p : ℕ) → p < length lines / 2 → get_or ranks p 0 ≤ k)
      → (i : ℕ) → i < k → ((h : ℕ) → h < i → RoundMeets n lines ranks (h + 1) (order_of n orders h))
      → RoundFault n lines ranks (i + 1) (order_of n orders i) kind place → FirstFault n k lines ranks orders (i + 1) kind place
