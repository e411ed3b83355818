-- The kept lines of a plan that meets the definition join what all lines join, whichever stations are taken away, fewer than k.
-- Assumes nothing.
use Prim.Native.Nat.{ℕ, zero, suc, ◌-◌, ◌/◌, ◌≤◌, ◌<◌}
use mathlib.Core.Path.{◌≡◌, refl, sym}
use mathlib.Core.Bool.{Bool, true, false}
use mathlib.Core.Logic.{◌≢◌}
use mathlib.Core.List.{List}
use native.Mathlib.Decide.{map_dec, ℕ_discrete, dec_lt}
use native.Mathlib.Numerals.{add-one}
use native.Mathlib.Omega.{arith}
use lib.ListN.{length, get_or}
use Rattle.laws.specs.Count.{total, bit, count}
use Rattle.laws.proofs.Count.{total_le}
use Rattle.laws.proofs.Decide.{dec_and, dec_not}
use Rattle.network.specs.Lines.{network, Joins}
use Rattle.network.specs.Chains.{Hop, Hop.by, Chain, Chain.here, Every}
use Rattle.network.specs.Faults.{Sound}
use Rattle.network.proofs.Chains.{joins_back, joins_in, chain_end, chain_join, chain_hop, chain_by}
use Rattle.plans.specs.Published.{Greedy}
use Rattle.plans.specs.Plans.{InPlay, OfRank, PlanMeets}
use Rattle.pieces.specs.Joined.{Remains, Joined}
use Rattle.certificate.proofs.Colours.{Colour, Colour.gone, Colour.near, Colour.far, weight, gone_near, gone_far, near_far}
use Rattle.certificate.proofs.Cut.{Split, no_split}
use Rattle.certificate.proofs.Decidable.{dec_chain}

-- Line p is kept.
abbrev pub IsKept : List ℕ → ℕ → Type 0
IsKept ranks p = get_or ranks p 0 ≢ 0

-- ── the colour of a station: taken away; else near where it is joined, and far where not ──

abbrev colour : {P : Type 0} → Bool → Dec P → Colour
colour true d = gone
colour false (yes h) = near
colour false (no n) = far

colour_weight : {P : Type 0} (x : Bool) (d : Dec P) → weight (colour x d) ≤ bit x
colour_weight true d = omega arith
colour_weight false (yes h) = omega arith
colour_weight false (no n) = omega arith

colour_near : {P : Type 0} (x : Bool) (d : Dec P) → colour x d ≡ near → P
colour_near true d e = absurd (gone_near e)
colour_near false (yes h) e = h
colour_near false (no n) e = absurd (near_far (sym e))

colour_far : {P : Type 0} (x : Bool) (d : Dec P) → colour x d ≡ far → (x ≡ false) × ¬ P
colour_far true d e = absurd (gone_far e)
colour_far false (yes h) e = absurd (near_far e)
colour_far false (no n) e = (refl, n)

near_colour : {P : Type 0} (x : Bool) (d : Dec P) → x ≡ false → P → colour x d ≡ near
near_colour true d e h = cc
near_colour false (yes _) e h = refl
near_colour false (no n) e h = absurd (n h)

far_colour : {P : Type 0} (x : Bool) (d : Dec P) → x ≡ false → ¬ P → colour x d ≡ far
far_colour true d e n = cc
far_colour false (yes h) e n = absurd (n h)
far_colour false (no _) e n = refl

dec_false : (x : Bool) → Dec (x ≡ false)
dec_false true = no (λ e. let z : ◌≡◌ {A = ℕ} 0 1 = cc in omega arith)
dec_false false = yes refl

dec_remains : (n : ℕ) (away : ℕ → Bool) (v : ℕ) → Dec (Remains n away v)
dec_remains n away v =
    map_dec (λ h. record { station = h.0; stays = h.1 }) (λ r. (r.station, r.stays)) (dec_and (dec_lt v n) (dec_false (away v)))

module _ {n k : ℕ} {lines ranks orders : List ℕ} (sound : Sound n lines) (meets : PlanMeets n k lines ranks orders) (away : ℕ → Bool) (few : count n away < k) where
  -- by kept lines
  abbrev KeptJoined : ℕ → ℕ → Type 0
  KeptJoined u v = Chain (Hop (network n lines) (IsKept ranks)) (Remains n away) u v

  dec_joined : (u v : ℕ) → Dec (KeptJoined u v)
  dec_joined = dec_chain (network n lines) (IsKept ranks) (Remains n away) (λ p. dec_not (ℕ_discrete (get_or ranks p 0) 0)) (dec_remains n away)

  abbrev paint : ℕ → ℕ → Colour
  paint u v = colour (away v) (dec_joined u v)

  -- a line whose ends the kept lines do not join splits what they join from the rest
  split : (u v p : ℕ) → Remains n away u → Remains n away v → Joins (network n lines) p u v → ¬ KeptJoined u v → Split (network n lines) ranks 1 p (paint u)
  split u v p su sv j none =
      record {
        near_end = u;
        far_end = v;
        ends = j;
        is_near = near_colour (away u) (dec_joined u u) su.stays (here su);
        is_far = far_colour (away v) (dec_joined u v) sv.stays none;
        uncrossed = λ q x y l k j' ex ey. cross q x y l k j' (colour_near (away x) (dec_joined u x) ex) (colour_far (away y) (dec_joined u y) ey);
      }
    where
      cross : (q x y : ℕ) → q < length lines / 2 → 1 ≤ get_or ranks q 0 → Joins (network n lines) q x y → KeptJoined u x → (away y ≡ false) × ¬ KeptJoined u y → ⊥
      cross q x y l k j' c (sy, none') =
          none' (chain_join c (chain_hop (chain_end c) (record { station = joins_in sound.simple.proper l (joins_back j'); stays = sy }) (by q l (λ (e : get_or ranks q 0 ≡ 0). omega arith) j')))

  rounds : (i : ℕ) → 1 ≤ i → i ≤ k → (t : ℕ → ℕ) × Greedy (network n lines) (InPlay ranks i) (OfRank ranks i) t
  rounds zero h l = absurd (omega arith)
  rounds (suc i) h l = (_, rw (add-one i) at (meets.rounds i l).greedy)

  all_kept : (u v : ℕ) → Remains n away u → Remains n away v → Hop (network n lines) Every u v → KeptJoined u v
  all_kept u v su sv (by p l _ j) = go (ℕ_discrete (get_or ranks p 0) 0) (dec_joined u v)
    where
      go : Dec (get_or ranks p 0 ≡ 0) → Dec (KeptJoined u v) → KeptJoined u v
      go (no h) d = chain_hop su sv (by p l h j)
      go (yes h) (yes c) = c
      go (yes h) (no none) =
          let below : total n (λ w. weight (paint u w)) ≤ count n away = total_le n _ _ (λ w _. colour_weight (away w) (dec_joined u w)) in
          absurd (no_split (network n lines) sound.simple ranks k rounds p l h (k - 1) 1 (omega arith) (omega arith) (paint u) (omega arith) (split u v p su sv j none))

  -- THEOREM. What all lines join, the kept lines join.
  pub joined_kept : {u v : ℕ} → Joined n lines away u v → Chain (Hop (network n lines) (IsKept ranks)) (Remains n away) u v
  joined_kept c = chain_by all_kept c
