-- THEOREM. What pruning gives, round by round, told by the final ranks alone: a line is in play in round i + 1 where its rank
-- is 0 or at least i + 1, and of those lines the round takes the one from each station to the first of its earlier
-- neighbours. The idea: once a line is taken its rank stays. Assumes nothing.
use Prim.Native.Nat.{ℕ, zero, suc, ◌+◌, ◌*◌, ◌/◌, ◌<◌, ◌≤◌}
use mathlib.Core.Path.{◌≡◌, refl, sym, ◌∙◌}
use mathlib.Core.List.{List}
use mathlib.Core.Logic.{◌≢◌, ◌⊎◌, ◌⊎◌.inl, ◌⊎◌.inr}
use native.Mathlib.Decide.{ℕ_discrete}
use native.Mathlib.Omega.{arith}
use lib.ListN.{length, get_or, take, drop, replicate, length-replicate}
use Rattle.laws.specs.Fold.{up_to}
use Rattle.laws.proofs.Lists.{replicate_at}
use Rattle.network.specs.Lines.{network, Joins, Simple}
use Rattle.rule.specs.Rule.{one_round}
use Rattle.rule.proofs.Takes.{Leads}
use Rattle.rule.proofs.Reached.{Neighbour}
use Rattle.rule.proofs.First.{ScanFirst, round_scan_first}
use Rattle.rule.specs.Rounds.{next_round, all_rounds, pruned}
use Rattle.rule.proofs.Plans.{Done, ranked, sized, part_is}

-- Line p is in play in round i + 1, by the final ranks, and joins u and v.
pub record RoundLeads (n : ℕ) (lines ranks : List ℕ) (i p u v : ℕ) : Type 0 where
  pub place : p < length lines / 2
  pub in_play_lem : (get_or ranks p 0 ≡ 0) ⊎ (i + 1 ≤ get_or ranks p 0)
  pub joins : Joins (network n lines) p u v

-- A line in play in round i + 1 joins v to a station before position t of the order.
pub record RoundNeighbour (n : ℕ) (lines ranks order : List ℕ) (i t v : ℕ) : Type 0 where
  pub line : ℕ
  pub position : ℕ
  pub below : position < t
  pub leads : RoundLeads n lines ranks i line v (get_or order position 0)

-- What round i + 1 made of the lines in play, by positions in its order, told by the final ranks.
pub record RoundFirst (n : ℕ) (lines ranks order : List ℕ) (i : ℕ) : Type 0 where
  -- the line from a station to the first of its earlier neighbours in play is taken
  pub first_taken : (p h j : ℕ) → h < j → j < n → RoundLeads n lines ranks i p (get_or order j 0) (get_or order h 0)
      → ¬ RoundNeighbour n lines ranks order i h (get_or order j 0) → get_or ranks p 0 ≡ i + 1
  -- a line that is taken leads from a station to the first of its earlier neighbours in play
  pub taken_first : (p h j : ℕ) → p < length lines / 2 → h < j → j < n → Joins (network n lines) p (get_or order j 0) (get_or order h 0)
      → get_or ranks p 0 ≡ i + 1 → ¬ RoundNeighbour n lines ranks order i h (get_or order j 0)
  -- where a line in play leads from position x back to position e, every position after e up to x has an earlier neighbour in play
  pub no_new_root : (p e x y : ℕ) → x < n → e < y → y ≤ x → RoundLeads n lines ranks i p (get_or order x 0) (get_or order e 0)
      → RoundNeighbour n lines ranks order i y (get_or order y 0)

-- From the ranks after i rounds to later ones: what was taken stays, and what is taken later has a higher rank.
record Since (i : ℕ) (before after : List ℕ) : Type 0 where
  old : (p : ℕ) → get_or before p 0 ≢ 0 → get_or after p 0 ≡ get_or before p 0
  new : (p : ℕ) → get_or before p 0 ≡ 0 → (get_or after p 0 ≡ 0) ⊎ (i + 1 ≤ get_or after p 0)

since_none : (i : ℕ) (ranks : List ℕ) → Since i ranks ranks
since_none i ranks = record { old = λ p b. refl; new = λ p b. inl b }

-- one round more, the one after j others
since_more : {n i j : ℕ} {lines before ranks after order : List ℕ} → i ≤ j → Since i before ranks → ScanFirst n lines ranks after order (j + 1)
    → Since i before after
since_more {i = i} {j = j} {before = before} {ranks = ranks} {after = after} h s r =
    record {
      old = λ p b. r.old p (rw (← (s.old p b)) at b) ∙ s.old p b;
      new = λ p b. new p (s.new p b);
    }
  where
    now : (p : ℕ) → (get_or after p 0 ≡ 0) ⊎ (get_or after p 0 ≡ j + 1) → (get_or after p 0 ≡ 0) ⊎ (i + 1 ≤ get_or after p 0)
    now p (inl e) = inl e
    now p (inr e) = inr (omega arith)

    new : (p : ℕ) → (get_or ranks p 0 ≡ 0) ⊎ (i + 1 ≤ get_or ranks p 0) → (get_or after p 0 ≡ 0) ⊎ (i + 1 ≤ get_or after p 0)
    new p (inl e) = now p (r.new p e)
    new p (inr l) = let e = r.old p (λ (x : get_or ranks p 0 ≡ 0). omega arith) in inr (omega arith)

module _ (n k : ℕ) (lines starts : List ℕ) (simple : Simple (network n lines)) (starts_in : (index : ℕ) → index < k → get_or starts index 0 < n) where
  -- the ranks after i rounds
  abbrev After : ℕ → List ℕ
  After i = (Done n lines starts (replicate (length lines / 2) 0) i).ranks

  at_most : (i p : ℕ) → get_or (After i) p 0 ≤ i
  at_most i = ranked n lines starts (replicate (length lines / 2) 0) (λ p. rw (replicate_at {A = ℕ} (length lines / 2) p 0) (omega arith)) i

  abbrev Order : ℕ → List ℕ
  Order i = (one_round n lines (i + 1) (get_or starts i 0) (After i)).order

  round_first : (i : ℕ) → i < k → ScanFirst n lines (After i) (After (suc i)) (Order i) (i + 1)
  unfolding up_to next_round
  round_first i h =
      round_scan_first n lines simple (i + 1) (get_or starts i 0) (After i) (λ p. omega (arith, at_most i p))
      (sized n lines starts (replicate (length lines / 2) 0) i ∙ length-replicate {A = ℕ} (length lines / 2) 0) (starts_in i h)

  since : (i j : ℕ) → i ≤ j → j ≤ k → Since i (After i) (After j)
  since i zero h l = let e : i ≡ 0 = omega arith in rw e (since_none 0 (After 0))
  since i (suc j) h l = go (ℕ_discrete i (suc j)) (λ m. since i j m (omega arith))
    where
      go : Dec (i ≡ suc j) → (i ≤ j → Since i (After i) (After j)) → Since i (After i) (After (suc j))
      go (yes e) ih = rw e (since_none (suc j) (After (suc j)))
      go (no o) ih = since_more {j = j} (omega arith) (ih (omega arith)) (round_first j l)

  module _ (i : ℕ) (h : i < k) where
    -- what the final ranks say of the ranks before the round, and of those after it
    was_in_play : (p : ℕ) → (get_or (After k) p 0 ≡ 0) ⊎ (i + 1 ≤ get_or (After k) p 0) → get_or (After i) p 0 ≡ 0
    was_in_play p c = go (ℕ_discrete (get_or (After i) p 0) 0) c
      where
        go : Dec (get_or (After i) p 0 ≡ 0) → (get_or (After k) p 0 ≡ 0) ⊎ (i + 1 ≤ get_or (After k) p 0) → get_or (After i) p 0 ≡ 0
        go (yes e) c = e
        go (no o) (inl e) = sym ((since i k (omega arith) (omega arith)).old p o) ∙ e
        go (no o) (inr l) = absurd (omega (arith, (since i k (omega arith) (omega arith)).old p o, at_most i p))

    taken_stays : (p : ℕ) → get_or (After (suc i)) p 0 ≡ i + 1 → get_or (After k) p 0 ≡ i + 1
    taken_stays p e = (since (suc i) k h (omega arith)).old p (λ (x : get_or (After (suc i)) p 0 ≡ 0). omega arith) ∙ e

    was_taken : (p : ℕ) → get_or (After k) p 0 ≡ i + 1 → get_or (After (suc i)) p 0 ≡ i + 1
    was_taken p e = go (ℕ_discrete (get_or (After (suc i)) p 0) 0)
      where
        later : (get_or (After k) p 0 ≡ 0) ⊎ (suc i + 1 ≤ get_or (After k) p 0) → get_or (After (suc i)) p 0 ≡ i + 1
        later (inl f) = absurd (omega arith)
        later (inr l) = absurd (omega arith)

        go : Dec (get_or (After (suc i)) p 0 ≡ 0) → get_or (After (suc i)) p 0 ≡ i + 1
        go (yes f) = later ((since (suc i) k h (omega arith)).new p f)
        go (no o) = sym ((since (suc i) k h (omega arith)).old p o) ∙ e

    leads_then : {p u v : ℕ} → RoundLeads n lines (After k) i p u v → Leads n lines (After i) p u v
    leads_then {p} l = record { place = l.place; in_play_lem = was_in_play p l.in_play_lem; joins = l.joins }

    leads_now : {p u v : ℕ} → Leads n lines (After i) p u v → RoundLeads n lines (After k) i p u v
    leads_now {p} l = record { place = l.place; in_play_lem = (since i k (omega arith) (omega arith)).new p l.in_play_lem; joins = l.joins }

    near_then : {order : List ℕ} {t v : ℕ} → RoundNeighbour n lines (After k) order i t v → Neighbour n lines (After i) order t v
    near_then k = record { line = k.line; position = k.position; below = k.below; leads = leads_then k.leads }

    near_now : {order : List ℕ} {t v : ℕ} → Neighbour n lines (After i) order t v → RoundNeighbour n lines (After k) order i t v
    near_now k = record { line = k.line; position = k.position; below = k.below; leads = leads_now k.leads }

    finally : RoundFirst n lines (After k) (Order i) i
    finally =
        record {
          first_taken = λ p h j l m leads first. taken_stays p (F.first_taken p h j l m (leads_then leads) (λ k. first (near_now k)));
          taken_first = λ p h j place l m joins r near.
              let leads = leads_then (record { place = place; in_play_lem = inr (omega arith); joins = joins }) in
              F.taken_first p h j l m leads (was_taken p r) (near_then near);
          no_new_root = λ p e x y h l m leads. near_now (F.no_new_root p e x y h l m (leads_then leads));
        }
      where
        F : ScanFirst n lines (After i) (After (suc i)) (Order i) (i + 1)
        F = round_first i h

  -- THEOREM. Each round took, of the lines then in play, the one from each station to the first of its earlier neighbours.
  pub pruned_first : (i : ℕ) → i < k → RoundFirst n lines (pruned n k lines starts).ranks (take n (drop (i * n) (pruned n k lines starts).orders)) i
  unfolding pruned all_rounds
  pruned_first i h = rw (part_is n lines starts (replicate (length lines / 2) 0) k i h) (finally i h)
