-- Definitions say no less than they seem to: what they rule out.
-- Assumes nothing.
use Prim.Native.Nat.{ℕ}
use mathlib.Core.Path.{◌≡◌, refl}
use mathlib.Core.Bool.{Bool}
use mathlib.Core.List.{List}
use native.Mathlib.Omega.{arith}
use Rattle.network.specs.Lines.{network, Joins.forth, Joins.back}
use Rattle.network.specs.Chains.{Hop.by, Chain.here, Chain.step, Every}
use Rattle.pieces.specs.Lowest.{LowestJoined}
use Rattle.plans.specs.Published.{MaximalForest}
use Rattle.promises.specs.Promises.{triangle}

-- A piece is named by one station only: neither of two names is lower.
pub lowest_once : {n : ℕ} {lines : List ℕ} {away : ℕ → Bool} {v name other : ℕ} → LowestJoined n lines away v name → LowestJoined n lines away v other → name ≡ other
lowest_once {name = name} {other = other} x y = omega (arith, x.lowest other y.joins, y.lowest name x.joins)

-- The ends of a triangle's first line are joined by the other two.
pub triangle_joined : ¬ MaximalForest (network 3 triangle) Every Every
triangle_joined forest =
    forest.forest 0 (omega arith) tt
    (step tt (by 2 (omega arith) (tt, λ e. omega arith) (forth refl refl)) (step tt (by 1 (omega arith) (tt, λ e. omega arith) (back refl refl)) (here tt)))
