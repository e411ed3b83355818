-- Demand 3's word: "Call two line lists over the same n stations alike at k when, for every set of fewer than k stations taken away,
-- any two remaining stations are joined in one exactly when in the other."
-- Assumes nothing.
use Rattle.std.specs.Prelude.{ℕ, ◌<◌, Bool, ◌↔◌, List}
use Rattle.laws.specs.Count.{count}
use Rattle.pieces.specs.Joined.{Remains, Joined}

pub record Alike (n k : ℕ) (first second : List ℕ) : Type 0 where
  pub same : (away : ℕ → Bool) → count n away < k
      → (u v : ℕ) → Remains n away u → Remains n away v → Joined n first away u v ↔ Joined n second away u v
