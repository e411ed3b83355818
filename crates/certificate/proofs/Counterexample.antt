-- Forests alone are not enough: of document 01's seven stations, ranked by two rounds of spanning forests, the whole list joins 1 and 2
-- without station 0, and the kept lines do not. So the law needs the definition, which these ranks meet under no orders.
-- Assumes nothing.
use Prim.Native.Nat.{ℕ, ◌/◌}
use mathlib.Core.Path.{◌≡◌, refl, sym}
use mathlib.Core.Bool.{Bool, false, not, ◌&&◌, ◌||◌, true≢false}
use mathlib.Core.List.{List}
use native.Mathlib.Omega.{arith}
use lib.Dec.{eqb}
use lib.ListN.{length}
use Rattle.laws.specs.Fold.{up_to, first_from, any_from}
use Rattle.laws.specs.Count.{count}
use Rattle.laws.proofs.Fold.{first_all}
use Rattle.network.specs.Lines.{end_one, end_two, network, Joins, Joins.forth, Joins.back}
use Rattle.network.specs.Chains.{Hop, Hop.by, Every}
use Rattle.network.proofs.Chains.{chain_hop}
use Rattle.plans.specs.Plans.{PlanMeets}
use Rattle.kept.specs.Kept.{copy_line, kept_lines}
use Rattle.pieces.specs.Joined.{Remains, Joined}
use Rattle.certificate.specs.Alike.{Alike}
use Rattle.certificate.specs.Seven.{seven, seven_ranks}
use Rattle.certificate.proofs.Kept.{kept_alike}
use Rattle.certificate.proofs.Seven.{differ, differ_same, one_side, seven_sound}

-- Line p joins stations of two sides, and neither is taken away.
abbrev crosses : List ℕ → (away side : ℕ → Bool) → ℕ → Bool
crosses lines away side p = not (away (end_one lines p) || away (end_two lines p)) && differ (side (end_one lines p)) (side (end_two lines p))

-- Where no line crosses, two stations that are joined are on one side.
joined_side : {n : ℕ} (lines : List ℕ) (away side : ℕ → Bool) → any_from (crosses lines away side) 0 (length lines / 2) ≡ false
    → {u v : ℕ} → Joined n lines away u v → side u ≡ side v
joined_side {n} lines away side none c = one_side side hop c
  where
    hop : (u v : ℕ) → Remains n away u → Remains n away v → Hop (network n lines) Every u v → side u ≡ side v
    hop u v ru rv (by p l _ j) = go j
      where
        uncrossed : crosses lines away side p ≡ false
        uncrossed = first_all (λ b. b) (crosses lines away side) false (length lines / 2) none p l

        go : Joins (network n lines) p u v → side u ≡ side v
        go (forth x y) = differ_same (side u) (side v) (rw (x, y, ru.stays, rv.stays) at uncrossed)
        go (back x y) = sym (differ_same (side v) (side u) (rw (x, y, ru.stays, rv.stays) at uncrossed))

-- Station 0 is taken away; 1, 3 and 5 are one side.
abbrev zero_away : ℕ → Bool
zero_away v = eqb v 0

abbrev is_odd : ℕ → Bool
is_odd v = eqb v 1 || (eqb v 3 || eqb v 5)

kept_uncrossed : any_from (crosses (kept_lines seven seven_ranks) zero_away is_odd) 0 (length (kept_lines seven seven_ranks) / 2) ≡ false
unfolding first_from kept_lines copy_line up_to
kept_uncrossed = refl

-- THEOREM. The lines of nonzero rank are not alike at 2 to the whole list.
pub seven_not_alike : ¬ Alike 7 2 seven (kept_lines seven seven_ranks)
seven_not_alike alike =
    let few : count 7 zero_away ≡ 1 = refl in
    let one : Remains 7 zero_away 1 = record { station = omega arith; stays = refl } in
    let two : Remains 7 zero_away 2 = record { station = omega arith; stays = refl } in
    let joined : Joined 7 seven zero_away 1 2 = chain_hop one two (by 2 (omega arith) tt (forth refl refl)) in
    true≢false (joined_side (kept_lines seven seven_ranks) zero_away is_odd kept_uncrossed ((alike.same zero_away (omega arith) 1 2 one two).0 joined))

-- THEOREM. Whatever the orders, these ranks do not meet the definition, though both rounds are maximal forests (`seven_forests`).
pub seven_no_plan : (orders : List ℕ) → ¬ PlanMeets 7 2 seven seven_ranks orders
seven_no_plan orders meets = seven_not_alike (kept_alike seven_sound meets)
