-- The neighbours of each station, in a table.
-- Assumes nothing.
use Rattle.std.specs.Prelude.{ℕ, ◌+◌, ◌<◌, ◌≤◌, ◌≡◌, List, length, get_or}
use Rattle.network.specs.Lines.{network}
use Rattle.network.specs.Chains.{Hop, Every}

-- A line joins u and v.
abbrev pub Line : ℕ → List ℕ → ℕ → ℕ → Type 0
Line n lines u v = Hop (network n lines) Every u v

-- The neighbours of station u stand in `near` from begins[u] to before begins[u + 1]: each of these is one, and each one is there.
pub record Near (n : ℕ) (lines begins near : List ℕ) : Type 0 where
  pub each : (u i : ℕ) → u < n → get_or begins u 0 ≤ i → i < get_or begins (u + 1) 0 → Line n lines u (get_or near i 0)
  pub every : (u v : ℕ) → Line n lines u v → (i : ℕ) × (get_or begins u 0 ≤ i) × (i < get_or begins (u + 1) 0) × (get_or near i 0 ≡ v)

-- The table keeps within its bounds.
pub record Bound (n : ℕ) (begins near : List ℕ) : Type 0 where
  pub few : length near ≤ 16384
  pub rooms : length begins ≡ n + 1
  pub ends : (u : ℕ) → u < n → get_or begins (u + 1) 0 ≤ length near
  pub stations : (u i : ℕ) → u < n → get_or begins u 0 ≤ i → i < get_or begins (u + 1) 0 → get_or near i 0 < n
