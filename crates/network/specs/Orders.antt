-- An order of the stations.
-- Assumes nothing.
use Rattle.std.specs.Prelude.{ℕ, ◌<◌, ◌≡◌, List, length, get_or}

-- The list is n long and has each station once.
pub record EachOnce (n : ℕ) (order : List ℕ) : Type 0 where
  pub size : length order ≡ n
  pub station : (j : ℕ) → j < n → get_or order j 0 < n
  pub once : (i j : ℕ) → i < n → j < n → get_or order i 0 ≡ get_or order j 0 → i ≡ j
  pub every : (v : ℕ) → v < n → (j : ℕ) × (j < n) × (get_or order j 0 ≡ v)
