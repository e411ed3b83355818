-- Uniting as `unite_marked` speaks of it: by the set of places whose lines stand in the first list, and not by the first list itself.
-- Assumes nothing.
use Rattle.std.specs.Prelude.{ℕ, ◌/◌, ◌<◌, ◌≡◌, Bool, not, List, length}
use Rattle.bits.specs.Sets.{is_in}
use Rattle.network.specs.Lines.{end_one, end_two}
use Rattle.network.specs.Judging.{stood_before}
use Rattle.kept.specs.Kept.{put_line}

-- The set has just the places of those lines of the second list that stand in the first.
pub record Marks (first second again : List ℕ) : Type 0 where
  pub exactly : (p : ℕ) → p < length second / 2 → is_in again p ≡ stood_before first (length first / 2) (end_one second p) (end_two second p)

-- Whether the set lacks the place p.
unfoldable pub is_new : List ℕ → ℕ → Bool
is_new again p = not (is_in again p)

-- The line at place p, after those that stand, if it is new.
unfoldable pub add_new : List ℕ → List ℕ → ℕ → List ℕ → List ℕ
add_new again lines = put_line (is_new again) lines
