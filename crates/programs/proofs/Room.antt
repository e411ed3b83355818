-- Room for 8,192 ranks and 16,384 numbers of orders is enough for every network that is not refused for its sizes, so pruning with that
-- room answers as if none were asked for. Assumes nothing.
use Prim.Native.Nat.{ℕ}
use mathlib.Core.Path.{◌≡◌, refl, ap}
use mathlib.Core.Bool.{Bool, false}
use mathlib.Core.List.{List}
use native.Mathlib.Nat.{mul-le-mul_right}
use native.Mathlib.Omega.{arith}
use Rattle.kinds.specs.Answers.{Answer, Answer.given, Answer.refused, ◌and_then◌, is_refused}
use Rattle.limits.specs.Limits.{stations_judged, length_judged, level_judged, room_judged, plan_short}
use Rattle.limits.proofs.Limits.{stations_good, length_good, level_good}
use Rattle.limits.proofs.Room.{enough_room}
use Rattle.network.specs.Judging.{lines_judged}
use Rattle.request.specs.Judging.{start_count_judged, starts_judged, sizes_judged, request_judged}

-- What comes after a judge matters only where it passes.
then_same : {A : Type 0} (a : Answer (Unit {0})) (b b' : Answer A) → (is_refused a ≡ false → b ≡ b') → a and_then b ≡ a and_then b'
then_same (given value) b b' h = h refl
then_same (refused number place list) b b' h = refl

pub room_for_all : (n k : ℕ) (lines starts : List ℕ) → request_judged n k lines starts (plan_short n k lines 8192 16384) ≡ request_judged n k lines starts false
unfolding request_judged sizes_judged
room_for_all n k lines starts =
    ap (◌and_then (lines_judged 0 n lines and_then starts_judged n starts))
    (then_same (stations_judged n) _ _
    (λ s. then_same (length_judged 0 lines) _ _
    (λ l. then_same (level_judged k) _ _
    (λ v. ap (λ (b : Bool). start_count_judged k starts and_then room_judged b)
    (enough_room n k lines 8192 16384 (omega (arith, length_good 0 lines l)) (omega (arith, mul-le-mul_right n (level_good k v).1, stations_good n s)))))))
