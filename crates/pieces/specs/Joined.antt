-- When two stations are joined: "a and b remain and a chain of remaining stations, neighbours by lines, leads from a to b".
-- Assumes nothing.
use Rattle.std.specs.Prelude.{ℕ, ◌<◌, ◌≡◌, Bool, false, List}
use Rattle.network.specs.Lines.{network}
use Rattle.network.specs.Chains.{Hop, Chain, Every}

-- v is a station, and not taken away.
pub record Remains (n : ℕ) (away : ℕ → Bool) (v : ℕ) : Type 0 where
  pub station : v < n
  pub stays : away v ≡ false

-- A chain of remaining stations leads from a to b. It has a and b among its stations, so both remain; a station is joined to itself.
abbrev pub Joined : ℕ → List ℕ → (ℕ → Bool) → ℕ → ℕ → Type 0
Joined n lines away a b = Chain (Hop (network n lines) Every) (Remains n away) a b

-- Any two remaining stations are joined.
pub record Whole (n : ℕ) (lines : List ℕ) (away : ℕ → Bool) : Type 0 where
  pub joined : (u v : ℕ) → Remains n away u → Remains n away v → Joined n lines away u v

-- Two remaining stations are not joined.
pub record Parted (n : ℕ) (lines : List ℕ) (away : ℕ → Bool) : Type 0 where
  pub one : ℕ
  pub two : ℕ
  pub one_remains : Remains n away one
  pub two_remains : Remains n away two
  pub apart : ¬ Joined n lines away one two
