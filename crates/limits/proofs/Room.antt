-- Room for a plan is not short just where there is a rank for each line and an entry for each station of each round.
-- Assumes nothing.
use Prim.Native.Nat.{ℕ, ◌*◌, ◌/◌, ◌≤◌}
use mathlib.Core.Path.{◌≡◌}
use mathlib.Core.Bool.{false}
use mathlib.Core.List.{List}
use borrow.Author.Tests.{ltb-false, le-ltb}
use lib.Dec.{ltb}
use lib.ListN.{length}
use Rattle.limits.specs.Limits.{plan_short}
use Rattle.laws.proofs.Truth.{neither}

pub room_enough : (n k : ℕ) (lines : List ℕ) (ranks orders : ℕ) → plan_short n k lines ranks orders ≡ false → (length lines / 2 ≤ ranks) × (k * n ≤ orders)
unfolding plan_short
room_enough n k lines ranks orders e =
    let (x, y) = neither (ltb ranks (length lines / 2)) (ltb orders (k * n)) e in
    (ltb-false ranks (length lines / 2) x, ltb-false orders (k * n) y)

pub enough_room : (n k : ℕ) (lines : List ℕ) (ranks orders : ℕ) → length lines / 2 ≤ ranks → k * n ≤ orders → plan_short n k lines ranks orders ≡ false
unfolding plan_short
enough_room n k lines ranks orders x y = rw (le-ltb ranks (length lines / 2) x, le-ltb orders (k * n) y)
