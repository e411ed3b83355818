-- THEOREM. What pruning gives meets the published definition. The idea: a round takes each station's line to the first of
-- its earlier neighbours in play, and begins a new tree only where no line in play leads on, so a line in play has its ends in one tree.
-- Assumes nothing.
use Prim.Native.Nat.{ℕ, zero, suc, ◌+◌, ◌<◌, ◌≤◌}
use mathlib.Core.Path.{◌≡◌, refl}
use mathlib.Core.List.{List}
use mathlib.Core.Logic.{◌⊎◌.inl, ◌⊎◌.inr}
use native.Mathlib.Decide.{ℕ_discrete, dec_lt, dec_le}
use native.Mathlib.Omega.{arith}
use lib.ListN.{get_or}
use Rattle.network.specs.Lines.{end_one, end_two, network, Joins.forth, Proper}
use Rattle.network.specs.Chains.{Hop, Hop.by, Chain, Chain.here, Every}
use Rattle.network.specs.Faults.{Sound}
use Rattle.network.specs.Orders.{EachOnce}
use Rattle.network.proofs.Chains.{hop_back, hop_in, hop_apart, chain_hop, chain_join, chain_back}
use Rattle.plans.specs.Orders.{order_of, position_of}
use Rattle.plans.specs.Plans.{InPlay, OfRank, PlanMeets}
use Rattle.plans.specs.Faults.{Beside, Tied, Earliest, StationGood}
use Rattle.plans.proofs.Hops.{first_beside, Searched, searched}
use Rattle.plans.proofs.Orders.{order_position, position_below, position_one}
use Rattle.plans.proofs.Greedy.{RoundGood, good_meets}
use Rattle.rule.specs.Rounds.{pruned}
use Rattle.rule.proofs.Plans.{pruned_ranks, pruned_orders}
use Rattle.rule.proofs.RoundsFirst.{RoundLeads, RoundNeighbour, RoundFirst, pruned_first}
use Rattle.certificate.specs.Starts.{StartsIn}

module _ {n : ℕ} {lines ranks order : List ℕ} {i : ℕ} (F : RoundFirst n lines ranks order i) where
  -- a line of round i + 1 joins two stations
  abbrev Ranked : ℕ → ℕ → Type 0
  Ranked = Hop (network n lines) (OfRank ranks (i + 1))

  -- a line in play leads from station v to one before position t, as the check says it and as pruning's theorem says it
  near : {t v : ℕ} (h : ℕ) → h < t → Hop (network n lines) (InPlay ranks (i + 1)) v (get_or order h 0) → RoundNeighbour n lines ranks order i t v
  near h l (by p place play joins) = record { line = p; position = h; below = l; leads = record { place = place; in_play_lem = play; joins = joins } }

  beside : {t v : ℕ} (k : RoundNeighbour n lines ranks order i t v) → Hop (network n lines) (InPlay ranks (i + 1)) v (get_or order k.position 0)
  beside k = by k.line k.leads.place k.leads.in_play_lem k.leads.joins

  -- ── faults C and D: the line taken is the one to the earliest ──

  station : (j : ℕ) → j < n → StationGood n lines ranks (i + 1) order j
  station j l = record { parent = λ h e. parent h e e.beside; no_other = no_other }
    where
      parent : (h : ℕ) → Earliest n lines ranks (i + 1) order j h → Beside n lines ranks (i + 1) order j h → Tied n lines ranks (i + 1) order j h
      parent h e (by p place play joins) =
          let leads : RoundLeads n lines ranks i p (get_or order j 0) (get_or order h 0) = record { place = place; in_play_lem = play; joins = joins } in
          by p place (F.first_taken p h j e.earlier l leads (λ k. e.first k.position k.below (beside k))) joins

      no_other : (h : ℕ) → h < j → Tied n lines ranks (i + 1) order j h → Earliest n lines ranks (i + 1) order j h
      no_other h m (by p place rank joins) =
          record {
            earlier = m;
            beside = by p place (inr (omega arith)) joins;
            first = λ x b k. F.taken_first p h j place m l joins rank (near x b k);
          }

  -- ── fault E: what lies between the ends of a line in play has an earlier neighbour, so it is in their tree ──

  -- the station at position j has an earlier neighbour in play
  abbrev HasEarlier : ℕ → Type 0
  HasEarlier j = RoundNeighbour n lines ranks order i j (get_or order j 0)

  between : (x e y : ℕ) → x < n → e < y → y ≤ x → Beside n lines ranks (i + 1) order x e → HasEarlier y
  between x e y l m k (by p place play joins) = F.no_new_root p e x y l m k (record { place = place; in_play_lem = play; joins = joins })

  -- where each position after e up to h has an earlier neighbour, h is joined to e
  led : (most h e : ℕ) → h < most → h < n → e ≤ h → ((x : ℕ) → e < x → x ≤ h → HasEarlier x) → Chain Ranked Every (get_or order h 0) (get_or order e 0)
  led zero h e l m k all = absurd (omega arith)
  led (suc most) h e l m k all = go (ℕ_discrete e h) (searched n lines ranks (i + 1) order h) (λ x y. led most x y)
    where
      first : ℕ
      first = first_beside n lines ranks (i + 1) order h

      go : Dec (e ≡ h) → Searched n lines ranks (i + 1) order h
          → ((x y : ℕ) → x < most → x < n → y ≤ x → ((z : ℕ) → y < z → z ≤ x → HasEarlier z) → Chain Ranked Every (get_or order x 0) (get_or order y 0))
          → Chain Ranked Every (get_or order h 0) (get_or order e 0)
      go (yes same) found ih = rw same (here tt)
      go (no other) (inr (same, none)) ih = let near = all h (omega arith) (omega arith) in absurd (none near.position near.below (beside near))
      go (no other) (inl (less, found)) ih = chain_join (chain_hop tt tt ((station h m).parent first found)) (rest (dec_le e first))
        where
          rest : Dec (e ≤ first) → Chain Ranked Every (get_or order first 0) (get_or order e 0)
          rest (yes a) = ih first e (omega arith) (omega arith) a (λ x b c. all x b (omega arith))
          rest (no a) = chain_back (λ x y. hop_back) (ih e first (omega arith) (omega arith) (omega arith) (λ x b c. between h first x m b (omega arith) found.beside))

  module _ (proper : Proper (network n lines)) (once : EachOnce n order) where
    abbrev t : ℕ → ℕ
    t = position_of n order

    -- the ends of a line in play are joined by lines of the round, the later end first
    back_joined : (u v : ℕ) → Hop (network n lines) (InPlay ranks (i + 1)) u v → t v < t u → Chain Ranked Every u v
    back_joined u v b l =
        let at_u : get_or order (t u) 0 ≡ u = order_position n order once u (hop_in proper b) in
        let at_v : get_or order (t v) 0 ≡ v = order_position n order once v (hop_in proper (hop_back b)) in
        let play : Beside n lines ranks (i + 1) order (t u) (t v) = rw (at_u, at_v) b in
        let below = position_below n order once u (hop_in proper b) in
        rw (at_u, at_v) at (led (suc (t u)) (t u) (t v) (omega arith) below (omega arith) (λ x m k. between (t u) (t v) x below m k play))

    joined : (u v : ℕ) → Hop (network n lines) (InPlay ranks (i + 1)) u v → Chain Ranked Every u v
    joined u v b = go (dec_lt (t u) (t v)) (dec_lt (t v) (t u))
      where
        go : Dec (t u < t v) → Dec (t v < t u) → Chain Ranked Every u v
        go (yes l) d = chain_back (λ x y. hop_back) (back_joined v u (hop_back b) l)
        go (no m) (yes l) = back_joined u v b l
        go (no m) (no o) = absurd (hop_apart proper b (position_one n order once u v (hop_in proper b) (hop_in proper (hop_back b)) (omega arith)))

    pub first_good : RoundGood n lines ranks (i + 1) order
    first_good =
        record {
          each_once = once;
          stations = station;
          ends = λ p l play. joined (end_one lines p) (end_two lines p) (by p l play (forth refl refl));
        }

module _ (n k : ℕ) (lines starts : List ℕ) (sound : Sound n lines) (starts_in : StartsIn n k starts) where
  -- THEOREM. What pruning gives meets the published definition.
  pub pruned_meets : PlanMeets n k lines (pruned n k lines starts).ranks (pruned n k lines starts).orders
  unfolding order_of
  pruned_meets =
      record {
        ranks_most = λ p _. pruned_ranks n k lines starts p;
        rounds = λ i l.
            let first = pruned_first n k lines starts sound.simple starts_in i l in
            good_meets n lines (pruned n k lines starts).ranks (i + 1) (order_of n (pruned n k lines starts).orders i) sound.simple
            (first_good first sound.simple.proper (pruned_orders n k lines starts i l));
      }
