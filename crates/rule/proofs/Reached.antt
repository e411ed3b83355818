-- Where a round stands after t scans, by positions in the order that it ends with: the marked stations are the start, the stations
-- before position t, and their neighbours in play; and the lines taken lead from those positions to the stations that had
-- no earlier neighbour. So a scan finds a neighbour unmarked just where no earlier station has it as a neighbour.
-- Assumes nothing.
use Prim.Native.Nat.{ℕ, zero, suc, ◌/◌, ◌<◌, ◌≤◌}
use mathlib.Core.Path.{◌≡◌, refl, sym, ◌∙◌}
use mathlib.Core.Bool.{Bool, true, false, true≢false}
use mathlib.Core.List.{List}
use mathlib.Core.Logic.{◌≢◌, ◌⊎◌, ◌⊎◌.inl, ◌⊎◌.inr}
use native.Mathlib.Decide.{ℕ_discrete}
use native.Mathlib.Omega.{arith}
use lib.ListN.{length, get_or, set, replicate, length-set, length-replicate}
use lib.Seq.{get_or-set_same, get_or-set_other}
use Rattle.laws.proofs.Lists.{replicate_at}
use Rattle.network.specs.Lines.{Network, network, Joins, Joins.forth, Joins.back, Simple}
use Rattle.network.specs.Orders.{EachOnce}
use Rattle.rule.specs.Rule.{Marks, marks, Scanning, scan_station, scan_as, round_start, one_round}
use Rattle.rule.proofs.Marks.{stored}
use Rattle.rule.proofs.Order.{round_each_once}
use Rattle.rule.proofs.Takes.{Leads, leads_turn, Taken, Led, Takes, scan_takes}
use Rattle.rule.proofs.Stages.{Earlier, Stage, after, after_none, after_more, after_stage}
use Rattle.network.proofs.Chains.{joins_back}
use Rattle.laws.proofs.Truth.{not_so}

-- A line in play by these ranks joins v to a station before position t of the order.
pub record Neighbour (n : ℕ) (lines ranks order : List ℕ) (t v : ℕ) : Type 0 where
  pub line : ℕ
  pub position : ℕ
  pub below : position < t
  pub leads : Leads n lines ranks line v (get_or order position 0)

-- Two ways to name the ends of a line.
pub two_ways : {g : Network} {p u v a b : ℕ} → Joins g p u v → Joins g p a b → ((u ≡ a) × (v ≡ b)) ⊎ ((u ≡ b) × (v ≡ a))
two_ways (forth x y) (forth z w) = inl (sym x ∙ z, sym y ∙ w)
two_ways (forth x y) (back z w) = inr (sym x ∙ z, sym y ∙ w)
two_ways (back x y) (forth z w) = inr (sym y ∙ w, sym x ∙ z)
two_ways (back x y) (back z w) = inl (sym y ∙ w, sym x ∙ z)

-- ── the invariant ──

-- Line p was taken in the scan at a position before t: it leads to a station that comes later, and has no neighbour before that position.
pub record TakenAt (n : ℕ) (lines ranks order : List ℕ) (t p : ℕ) : Type 0 where
  pub position : ℕ
  pub below : position < t
  pub station : ℕ
  pub joins : Joins (network n lines) p station (get_or order position 0)
  pub later : ¬ Earlier order (suc position) station
  pub first : ¬ Neighbour n lines ranks order position station

-- Why station v is marked: it is the start, or stands before position a, or has a neighbour before position b.
pub data Why (n : ℕ) (lines ranks order : List ℕ) (start a b v : ℕ) : Type 0 where
  by_start : v ≡ start → Why n lines ranks order start a b v
  by_scan : Earlier order a v → Why n lines ranks order start a b v
  by_line : Neighbour n lines ranks order b v → Why n lines ranks order start a b v

-- Where a round stands after t scans, by positions in the order that it ends with.
pub record Reached (n : ℕ) (lines before order : List ℕ) (round start t : ℕ) (s : Scanning) : Type 0 where
  pub size : length s.ranks ≡ length lines / 2
  pub old : (p : ℕ) → get_or before p 0 ≢ 0 → get_or s.ranks p 0 ≡ get_or before p 0
  pub new : (p : ℕ) → get_or before p 0 ≡ 0 → (get_or s.ranks p 0 ≡ 0) ⊎ (get_or s.ranks p 0 ≡ round)
  pub why : (v : ℕ) → get_or s.marked v false ≡ true → Why n lines before order start t t v
  pub near : (v : ℕ) → Neighbour n lines before order t v → get_or s.marked v false ≡ true
  pub taken : (p : ℕ) → get_or before p 0 ≡ 0 → get_or s.ranks p 0 ≡ round → TakenAt n lines before order t p
  pub takes : (p h v : ℕ) → h < t → Leads n lines before p v (get_or order h 0) → ¬ Earlier order (suc h) v → ¬ Neighbour n lines before order h v
      → get_or s.ranks p 0 ≡ round

-- From t to t + 1.
earlier_more : {order : List ℕ} {t v : ℕ} → Earlier order t v → Earlier order (suc t) v
earlier_more k = record { position = k.position; below = omega arith; is = k.is }

neighbour_more : {n : ℕ} {lines ranks order : List ℕ} {t v : ℕ} → Neighbour n lines ranks order t v → Neighbour n lines ranks order (suc t) v
neighbour_more k = record { line = k.line; position = k.position; below = omega arith; leads = k.leads }

taken_more : {n : ℕ} {lines ranks order : List ℕ} {t p : ℕ} → TakenAt n lines ranks order t p → TakenAt n lines ranks order (suc t) p
taken_more k = record { position = k.position; below = omega arith; station = k.station; joins = k.joins; later = k.later; first = k.first }

-- Before position t + 1 is before position t, or at it.
earlier_last : {order : List ℕ} {t v : ℕ} → Earlier order (suc t) v → Earlier order t v ⊎ (get_or order t 0 ≡ v)
earlier_last {order} {t} {v} k = go (ℕ_discrete k.position t)
  where
    go : Dec (k.position ≡ t) → Earlier order t v ⊎ (get_or order t 0 ≡ v)
    go (yes e) = inr (rw e at k.is)
    go (no o) = inl (record { position = k.position; below = omega (arith, k.below); is = k.is })

module _ (n : ℕ) (lines before order : List ℕ) (simple : Simple (network n lines)) (round start : ℕ)
    (below : (p : ℕ) → get_or before p 0 < round) (size : length before ≡ length lines / 2) (once : EachOnce n order) where
  begun : Reached n lines before order round start 0 (round_start n start before)
  begun =
      record {
        size = size;
        old = λ p b. refl;
        new = λ p b. inl b;
        why = λ v e. by_start (is_start v e (ℕ_discrete v start));
        near = λ v k. absurd (omega (arith, k.below));
        taken = λ p b r. absurd (omega (arith, below p));
        takes = λ p h v l. absurd (omega arith);
      }
    where
      is_start : (v : ℕ) → get_or (set (replicate n false) start true) v false ≡ true → Dec (v ≡ start) → v ≡ start
      is_start v e (yes f) = f
      is_start v e (no o) = absurd (true≢false (sym e ∙ (get_or-set_other (replicate n false) start v true false o ∙ replicate_at n v false)))

  module _ (t : ℕ) (s : Scanning) (h : t < n) (S : Stage n t order s) (R : Reached n lines before order round start t s)
      (start_first : get_or order 0 0 ≡ start) where
    abbrev Was : Marks
    Was = marks s.ranks (set s.marked (get_or order t 0) true)

    abbrev Now : Marks
    Now = scan_station lines round (get_or order t 0) Was

    -- the rank of p is as it was, or p was taken
    abbrev Only : ℕ → Type 0
    Only p = (get_or Now.ranks p 0 ≡ get_or s.ranks p 0) ⊎ Taken n lines round (get_or order t 0) p Was Now

    T : Takes n lines round (get_or order t 0) (length lines / 2) Was Now
    T = scan_takes n lines simple round (get_or order t 0) Was R.size (length-set s.marked (get_or order t 0) true ∙ S.marks_size)

    new_now : ¬ Earlier order t (get_or order t 0)
    new_now k = let e = once.once k.position t (omega (arith, k.below)) h k.is in omega (arith, k.below)

    -- what is in play now was in play before the round
    was_in_play : {p v w : ℕ} → Leads n lines s.ranks p v w → Leads n lines before p v w
    was_in_play {p} l = record { place = l.place; in_play_lem = go (ℕ_discrete (get_or before p 0) 0); joins = l.joins }
      where
        go : Dec (get_or before p 0 ≡ 0) → get_or before p 0 ≡ 0
        go (yes e) = e
        go (no o) = sym (R.old p o) ∙ l.in_play_lem

    -- when the scan begins, its station and the stations that were marked are marked
    self_marked : get_or Was.marked (get_or order t 0) false ≡ true
    self_marked = get_or-set_same s.marked (get_or order t 0) true false (omega (arith, S.marks_size, once.station t h))

    marked_was : (v : ℕ) → get_or s.marked v false ≡ true → get_or Was.marked v false ≡ true
    marked_was v e = stored (λ (x : Bool). x ≡ true) s.marked (get_or order t 0) v true false refl e

    marked_why : (v : ℕ) → get_or Was.marked v false ≡ true → Why n lines before order start (suc t) t v
    marked_why v e = go (ℕ_discrete v (get_or order t 0))
      where
        still : Why n lines before order start t t v → Why n lines before order start (suc t) t v
        still (by_start f) = by_start f
        still (by_scan k) = by_scan (earlier_more k)
        still (by_line k) = by_line k

        go : Dec (v ≡ get_or order t 0) → Why n lines before order start (suc t) t v
        go (yes f) = by_scan (record { position = t; below = omega arith; is = sym f })
        go (no o) = still (R.why v (sym (get_or-set_other s.marked (get_or order t 0) v true false o) ∙ e))

    -- a station is unmarked when the scan begins just where it comes later, and has no neighbour before position t
    unmarked_later : (v : ℕ) → get_or Was.marked v false ≡ false → ¬ Earlier order (suc t) v
    unmarked_later v e k = go (earlier_last k)
      where
        go : Earlier order t v ⊎ (get_or order t 0 ≡ v) → ⊥
        go (inl i) = true≢false (sym (marked_was v (S.marked_too v i)) ∙ e)
        go (inr f) = true≢false (cc self_marked)

    unmarked_first : (v : ℕ) → get_or Was.marked v false ≡ false → ¬ Neighbour n lines before order t v
    unmarked_first v e k = true≢false (sym (marked_was v (R.near v k)) ∙ e)

    later_unmarked : (v : ℕ) → ¬ Earlier order (suc t) v → ¬ Neighbour n lines before order t v → get_or Was.marked v false ≡ false
    later_unmarked v later first = not_so (get_or Was.marked v false) (λ e. go (marked_why v e))
      where
        go : Why n lines before order start (suc t) t v → ⊥
        go (by_start f) = later (record { position = 0; below = omega arith; is = start_first ∙ sym f })
        go (by_scan k) = later k
        go (by_line k) = first k

    one_more : Reached n lines before order round start (suc t) (scan_as lines round (get_or order t 0) s)
    unfolding scan_as
    one_more =
        record {
          size = T.grown.lines ∙ R.size;
          old = λ p b. old p b (T.only p);
          new = λ p b. new p b (T.only p);
          why = λ v e. why v (T.from v e);
          near = λ v k. near v k (ℕ_discrete k.position t);
          taken = λ p b r. taken p b r (T.only p);
          takes = λ p i v k l later first. takes p i v k l later first (ℕ_discrete i t);
        }
      where
        old : (p : ℕ) → get_or before p 0 ≢ 0 → Only p → get_or Now.ranks p 0 ≡ get_or before p 0
        old p b (inl e) = e ∙ R.old p b
        old p b (inr k) = absurd (b (was_in_play k.leads).in_play_lem)

        new : (p : ℕ) → get_or before p 0 ≡ 0 → Only p → (get_or Now.ranks p 0 ≡ 0) ⊎ (get_or Now.ranks p 0 ≡ round)
        new p b (inl e) = rw e (R.new p b)
        new p b (inr k) = inr k.ranked

        why : (v : ℕ) → (get_or Was.marked v false ≡ true) ⊎ Led n lines s.ranks (length lines / 2) (get_or order t 0) v
            → Why n lines before order start (suc t) (suc t) v
        why v (inl e) = go (marked_why v e)
          where
            go : Why n lines before order start (suc t) t v → Why n lines before order start (suc t) (suc t) v
            go (by_start f) = by_start f
            go (by_scan k) = by_scan k
            go (by_line k) = by_line (neighbour_more k)
        why v (inr k) = by_line (record { line = k.line; position = t; below = omega arith; leads = leads_turn (was_in_play k.leads) })

        taken : (p : ℕ) → get_or before p 0 ≡ 0 → get_or Now.ranks p 0 ≡ round → Only p → TakenAt n lines before order (suc t) p
        taken p b r (inl e) = taken_more (R.taken p b (sym e ∙ r))
        taken p b r (inr k) =
            record {
              position = t;
              below = omega arith;
              station = k.station;
              joins = joins_back k.leads.joins;
              later = unmarked_later k.station k.unmarked;
              first = unmarked_first k.station k.unmarked;
            }

        -- a neighbour of the station scanned: its line is in play, or leads back to where it was taken
        near_now : (p v : ℕ) → Leads n lines before p v (get_or order t 0) → (get_or s.ranks p 0 ≡ 0) ⊎ (get_or s.ranks p 0 ≡ round)
            → get_or Now.marked v false ≡ true
        near_now p v l (inl e) = T.reached p v l.place (record { place = l.place; in_play_lem = e; joins = joins_back l.joins })
        near_now p v l (inr e) = go (R.taken p l.in_play_lem e)
          where
            go : TakenAt n lines before order t p → get_or Now.marked v false ≡ true
            go k = ends (two_ways k.joins l.joins)
              where
                ends : ((k.station ≡ v) × (get_or order k.position 0 ≡ get_or order t 0))
                    ⊎ ((k.station ≡ get_or order t 0) × (get_or order k.position 0 ≡ v)) → get_or Now.marked v false ≡ true
                ends (inl (x, y)) = absurd (new_now (record { position = k.position; below = k.below; is = y }))
                ends (inr (x, y)) = T.grown.kept v (marked_was v (S.marked_too v (record { position = k.position; below = k.below; is = y })))

        near : (v : ℕ) (k : Neighbour n lines before order (suc t) v) → Dec (k.position ≡ t) → get_or Now.marked v false ≡ true
        near v k (yes e) = near_now k.line v (rw e at k.leads) (R.new k.line k.leads.in_play_lem)
        near v k (no o) =
            T.grown.kept v (marked_was v (R.near v (record { line = k.line; position = k.position; below = omega (arith, k.below); leads = k.leads })))

        -- what was taken stays so
        still : (p : ℕ) → get_or s.ranks p 0 ≡ round → Only p → get_or Now.ranks p 0 ≡ round
        still p r (inl e) = e ∙ r
        still p r (inr k) = k.ranked

        takes_now : (p v : ℕ) → Leads n lines before p v (get_or order t 0) → ¬ Earlier order (suc t) v → ¬ Neighbour n lines before order t v
            → (get_or s.ranks p 0 ≡ 0) ⊎ (get_or s.ranks p 0 ≡ round) → get_or Now.ranks p 0 ≡ round
        takes_now p v l later first (inl e) =
            T.takes p v l.place (record { place = l.place; in_play_lem = e; joins = joins_back l.joins }) (later_unmarked v later first)
        takes_now p v l later first (inr e) = still p e (T.only p)

        takes : (p i v : ℕ) → i < suc t → Leads n lines before p v (get_or order i 0) → ¬ Earlier order (suc i) v → ¬ Neighbour n lines before order i v
            → Dec (i ≡ t) → get_or Now.ranks p 0 ≡ round
        takes p i v k l later first (yes e) = takes_now p v (rw e at l) (rw e at later) (rw e at first) (R.new p l.in_play_lem)
        takes p i v k l later first (no o) = still p (R.takes p i v (omega arith) l later first) (T.only p)

-- ── the round ──

module _ (n : ℕ) (lines : List ℕ) (simple : Simple (network n lines)) (round start : ℕ) (before : List ℕ)
    (below : (p : ℕ) → get_or before p 0 < round) (size : length before ≡ length lines / 2) (station : start < n) where
  abbrev Order : List ℕ
  Order = (one_round n lines round start before).order

  each_once : EachOnce n (one_round n lines round start before).order
  each_once = round_each_once n lines round start before

  -- the first station to be scanned is the start, since no other is marked
  pub start_first : get_or Order 0 0 ≡ start
  start_first = go ((begun n lines before Order simple round start below size each_once).why (get_or Order 0 0) first_marked)
    where
      none : (v : ℕ) → ¬ Earlier Order 0 v
      none v k = omega (arith, k.below)

      start_marked : get_or (round_start n start before).marked start false ≡ true
      start_marked = get_or-set_same (replicate n false) start true false (simp length-replicate station)

      first_marked : get_or (round_start n start before).marked (get_or Order 0 0) false ≡ true
      first_marked =
          let S = rw (after_none n lines round start before) at (after_stage n lines round start before 0 (omega arith)) in
          S.next (omega arith) start station start_marked (none start)

      go : Why n lines before Order start 0 0 (get_or Order 0 0) → get_or Order 0 0 ≡ start
      go (by_start e) = e
      go (by_scan k) = absurd (omega (arith, k.below))
      go (by_line k) = absurd (omega (arith, k.below))

  pub reached : (t : ℕ) → t ≤ n → Reached n lines before Order round start t (after n lines round start before t)
  reached zero h = rw (after_none n lines round start before) (begun n lines before Order simple round start below size each_once)
  reached (suc t) h =
      rw (after_more n lines round start before t h)
      (one_more n lines before Order simple round start below size each_once t (after n lines round start before t) h
      (after_stage n lines round start before t (omega arith)) (reached t (omega arith)) start_first)
