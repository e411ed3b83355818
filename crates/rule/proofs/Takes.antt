-- What the scan of one station does: the lines in play that lead from it to unmarked stations get the round's rank, and
-- their stations are marked; nothing else is changed. The idea: no two lines join the same stations, so a station that
-- was unmarked when the scan began is still unmarked when its line's turn comes. Assumes nothing.
use Prim.Native.Nat.{ℕ, zero, suc, ◌/◌, ◌<◌, ◌≤◌}
use mathlib.Core.Path.{◌≡◌, refl, sym, ◌∙◌}
use mathlib.Core.Bool.{Bool, true, false, true≢false}
use mathlib.Core.List.{List}
use mathlib.Core.Logic.{◌≢◌, ◌⊎◌, ◌⊎◌.inl, ◌⊎◌.inr}
use native.Mathlib.Decide.{ℕ_discrete}
use native.Mathlib.Omega.{arith}
use borrow.Author.Tests.{eqb-true, eqb-false}
use lib.Dec.{eqb}
use lib.ListN.{length, get_or, set}
use lib.Seq.{get_or-set_same, get_or-set_other}
use Rattle.laws.specs.Fold.{pick, up_to}
use Rattle.network.specs.Lines.{end_one, end_two, Network, network, Joins, Joins.forth, Joins.back, Simple}
use Rattle.rule.specs.Rule.{Marks, marks, take_to, take_line, scan_station}
use Rattle.rule.proofs.Marks.{Grown, grown_none, grown_more, take_line_grown}
use Rattle.network.proofs.Chains.{joins_back}
use Rattle.laws.proofs.Truth.{not_so}

-- Line p is in play by these ranks, and joins u and v.
pub record Leads (n : ℕ) (lines ranks : List ℕ) (p u v : ℕ) : Type 0 where
  pub place : p < length lines / 2
  pub in_play_lem : get_or ranks p 0 ≡ 0
  pub joins : Joins (network n lines) p u v

pub leads_turn : {n : ℕ} {lines ranks : List ℕ} {p u v : ℕ} → Leads n lines ranks p u v → Leads n lines ranks p v u
leads_turn l = record { place = l.place; in_play_lem = l.in_play_lem; joins = joins_back l.joins }

-- A line that has u as one end has one other end.
pub other_end : {g : Network} {p u v w : ℕ} → g.one p ≢ g.two p → Joins g p u v → Joins g p u w → v ≡ w
other_end apart (forth x y) (forth z w) = sym y ∙ w
other_end apart (forth x y) (back z w) = absurd (apart (x ∙ sym w))
other_end apart (back x y) (forth z w) = absurd (apart (z ∙ sym y))
other_end apart (back x y) (back z w) = sym x ∙ z

-- ── one line ──

-- The turn of line p in the scan of u: all is left as it was, since p leads to no unmarked station; or p is taken.
data Turn (n : ℕ) (lines : List ℕ) (round u p : ℕ) (s t : Marks) : Type 0 where
  left : ((v : ℕ) → Leads n lines s.ranks p u v → get_or s.marked v false ≡ true) → t ≡ s → Turn n lines round u p s t
  took : (v : ℕ) → Leads n lines s.ranks p u v → get_or s.marked v false ≡ false
      → t ≡ marks (set s.ranks p round) (set s.marked v true) → Turn n lines round u p s t

module _ (n : ℕ) (lines : List ℕ) (round u p : ℕ) (place : p < length lines / 2) (apart : end_one lines p ≢ end_two lines p) (s : Marks) where
  turn_to : (v : ℕ) → Joins (network n lines) p u v → Turn n lines round u p s (take_to round p v s)
  unfolding take_to
  turn_to v j = go (eqb (get_or s.ranks p 0) 0) (get_or s.marked v false) refl refl
    where
      go : (a b : Bool) → eqb (get_or s.ranks p 0) 0 ≡ a → get_or s.marked v false ≡ b
          → Turn n lines round u p s (pick a (pick b s (marks (set s.ranks p round) (set s.marked v true))) s)
      go true true e f = left (λ w l. rw (other_end apart l.joins j) f) refl
      go true false e f = took v (record { place = place; in_play_lem = eqb-true (get_or s.ranks p 0) 0 e; joins = j }) f refl
      go false b e f = left (λ w l. absurd (eqb-false (get_or s.ranks p 0) 0 e l.in_play_lem)) refl

  turn : Turn n lines round u p s (take_line lines round u p s)
  unfolding take_line
  turn = go (eqb (end_one lines p) u) (eqb (end_two lines p) u) refl refl
    where
      go : (a b : Bool) → eqb (end_one lines p) u ≡ a → eqb (end_two lines p) u ≡ b
          → Turn n lines round u p s (pick a (take_to round p (end_two lines p) s) (pick b (take_to round p (end_one lines p) s) s))
      go true b e f = turn_to (end_two lines p) (forth (eqb-true (end_one lines p) u e) refl)
      go false true e f = turn_to (end_one lines p) (back refl (eqb-true (end_two lines p) u f))
      go false false e f = left (λ v l. absurd (away v l.joins)) refl
        where
          away : (v : ℕ) → ¬ Joins (network n lines) p u v
          away v (forth x y) = eqb-false (end_one lines p) u e x
          away v (back x y) = eqb-false (end_two lines p) u f y

-- ── the whole scan ──

-- The scan of u took line p: it was in play, and led to an unmarked station.
pub record Taken (n : ℕ) (lines : List ℕ) (round u p : ℕ) (s t : Marks) : Type 0 where
  pub station : ℕ
  pub leads : Leads n lines s.ranks p u station
  pub unmarked : get_or s.marked station false ≡ false
  pub ranked : get_or t.ranks p 0 ≡ round

-- One of the first m lines leads from u to v.
pub record Led (n : ℕ) (lines ranks : List ℕ) (m u v : ℕ) : Type 0 where
  pub line : ℕ
  pub below : line < m
  pub leads : Leads n lines ranks line u v

-- What the first m lines' turns in the scan of u make of s.
pub record Takes (n : ℕ) (lines : List ℕ) (round u m : ℕ) (s t : Marks) : Type 0 where
  pub grown : Grown round s t
  pub later : (p : ℕ) → m ≤ p → get_or t.ranks p 0 ≡ get_or s.ranks p 0
  -- a rank is as before, or its line was taken
  pub only : (p : ℕ) → (get_or t.ranks p 0 ≡ get_or s.ranks p 0) ⊎ Taken n lines round u p s t
  pub takes : (p v : ℕ) → p < m → Leads n lines s.ranks p u v → get_or s.marked v false ≡ false → get_or t.ranks p 0 ≡ round
  -- the stations that a line leads to are marked, and no others that were not
  pub reached : (p v : ℕ) → p < m → Leads n lines s.ranks p u v → get_or t.marked v false ≡ true
  pub from : (v : ℕ) → get_or t.marked v false ≡ true → (get_or s.marked v false ≡ true) ⊎ Led n lines s.ranks m u v

module _ (n : ℕ) (lines : List ℕ) (simple : Simple (network n lines)) (round u : ℕ) (s : Marks)
    (ranks_size : length s.ranks ≡ length lines / 2) (marks_size : length s.marked ≡ n) where
  takes_none : Takes n lines round u 0 s s
  takes_none =
      record {
        grown = grown_none round s;
        later = λ p h. refl;
        only = λ p. inl refl;
        takes = λ p v h. absurd (omega arith);
        reached = λ p v h. absurd (omega arith);
        from = λ v e. inl e;
      }

  module _ (m : ℕ) (t : Marks) (h : m < length lines / 2) (T : Takes n lines round u m s t) where
    -- line m is in play at its turn if it was before the scan
    leads_now : {v : ℕ} → Leads n lines s.ranks m u v → Leads n lines t.ranks m u v
    leads_now l = record { place = h; in_play_lem = T.later m (omega arith) ∙ l.in_play_lem; joins = l.joins }

    leads_was : {v : ℕ} → Leads n lines t.ranks m u v → Leads n lines s.ranks m u v
    leads_was l = record { place = h; in_play_lem = sym (T.later m (omega arith)) ∙ l.in_play_lem; joins = l.joins }

    -- a station that line m leads to is marked at its turn only if it was before the scan
    still : {v : ℕ} → Leads n lines s.ranks m u v → get_or s.marked v false ≡ false → get_or t.marked v false ≡ false
    still {v} l e = not_so (get_or t.marked v false) (λ f. go (T.from v f))
      where
        go : (get_or s.marked v false ≡ true) ⊎ Led n lines s.ranks m u v → ⊥
        go (inl f) = true≢false (sym f ∙ e)
        go (inr k) = let same = simple.once k.line m u v k.leads.place h k.leads.joins l.joins in omega arith

    led_more : {v : ℕ} → (get_or s.marked v false ≡ true) ⊎ Led n lines s.ranks m u v
        → (get_or s.marked v false ≡ true) ⊎ Led n lines s.ranks (suc m) u v
    led_more (inl f) = inl f
    led_more (inr k) = inr (record { line = k.line; below = omega arith; leads = k.leads })

    takes_left : ((v : ℕ) → Leads n lines t.ranks m u v → get_or t.marked v false ≡ true) → Takes n lines round u (suc m) s t
    takes_left all =
        record {
          grown = T.grown;
          later = λ p k. T.later p (omega arith);
          only = T.only;
          takes = λ p v k l f. take p v k l f (ℕ_discrete p m);
          reached = λ p v k l. reach p v k l (ℕ_discrete p m);
          from = λ v f. led_more (T.from v f);
        }
      where
        take : (p v : ℕ) → p < suc m → Leads n lines s.ranks p u v → get_or s.marked v false ≡ false → Dec (p ≡ m) → get_or t.ranks p 0 ≡ round
        take p v k l f (yes e) =
            let l : Leads n lines s.ranks m u v = rw e at l in
            absurd (true≢false (sym (all v (leads_now l)) ∙ still l f))
        take p v k l f (no o) = T.takes p v (omega arith) l f

        reach : (p v : ℕ) → p < suc m → Leads n lines s.ranks p u v → Dec (p ≡ m) → get_or t.marked v false ≡ true
        reach p v k l (yes e) = all v (leads_now (rw e at l))
        reach p v k l (no o) = T.reached p v (omega arith) l

    -- line m was taken, and leads to v
    module _ (v : ℕ) (leads : Leads n lines t.ranks m u v) (unmarked : get_or t.marked v false ≡ false) where
      abbrev Next : Marks
      Next = marks (set t.ranks m round) (set t.marked v true)

      takes_took : Grown round t Next → Takes n lines round u (suc m) s Next
      takes_took g =
          record {
            grown = grown_more round s t Next T.grown g;
            later = λ p k. get_or-set_other t.ranks m p round 0 (λ (x : p ≡ m). omega arith) ∙ T.later p (omega arith);
            only = λ p. only p (ℕ_discrete p m) (T.only p);
            takes = λ p w k l f. take p w k l f (ℕ_discrete p m);
            reached = λ p w k l. reach p w k l (ℕ_discrete p m);
            from = λ w f. come w f (ℕ_discrete w v);
          }
        where
          now : get_or (set t.ranks m round) m 0 ≡ round
          now = get_or-set_same t.ranks m round 0 (omega (arith, ranks_size, T.grown.lines))

          station : Joins (network n lines) m u v → v < n
          station (forth x y) = omega (arith, simple.proper.two_in m h)
          station (back x y) = omega (arith, simple.proper.one_in m h)

          marked : get_or (set t.marked v true) v false ≡ true
          marked = get_or-set_same t.marked v true false (omega (arith, marks_size, T.grown.size, station leads.joins))

          only : (p : ℕ) → Dec (p ≡ m) → (get_or t.ranks p 0 ≡ get_or s.ranks p 0) ⊎ Taken n lines round u p s t
              → (get_or (set t.ranks m round) p 0 ≡ get_or s.ranks p 0) ⊎ Taken n lines round u p s Next
          only p (yes e) c =
              inr (record {
                station = v;
                leads = rw e (leads_was leads);
                unmarked = not_so (get_or s.marked v false) (λ f. true≢false (sym (T.grown.kept v f) ∙ unmarked));
                ranked = rw e now;
              })
          only p (no o) (inl e) = inl (get_or-set_other t.ranks m p round 0 o ∙ e)
          only p (no o) (inr k) =
              inr (record { station = k.station; leads = k.leads; unmarked = k.unmarked; ranked = get_or-set_other t.ranks m p round 0 o ∙ k.ranked })

          take : (p w : ℕ) → p < suc m → Leads n lines s.ranks p u w → get_or s.marked w false ≡ false → Dec (p ≡ m)
              → get_or (set t.ranks m round) p 0 ≡ round
          take p w k l f (yes e) = rw e now
          take p w k l f (no o) = get_or-set_other t.ranks m p round 0 o ∙ T.takes p w (omega arith) l f

          reach : (p w : ℕ) → p < suc m → Leads n lines s.ranks p u w → Dec (p ≡ m) → get_or (set t.marked v true) w false ≡ true
          reach p w k l (yes e) = rw (other_end (simple.proper.apart m h) (rw e at l).joins leads.joins) marked
          reach p w k l (no o) = g.kept w (T.reached p w (omega arith) l)

          come : (w : ℕ) → get_or (set t.marked v true) w false ≡ true → Dec (w ≡ v)
              → (get_or s.marked w false ≡ true) ⊎ Led n lines s.ranks (suc m) u w
          come w f (yes e) = inr (record { line = m; below = omega arith; leads = rw e (leads_was leads) })
          come w f (no o) = led_more (T.from w (sym (get_or-set_other t.marked v w true false o) ∙ f))

    takes_more : (r : Marks) → Grown round t r → Turn n lines round u m t r → Takes n lines round u (suc m) s r
    takes_more r g (left all e) = rw e (takes_left all)
    takes_more r g (took v l f e) = rw e (takes_took v l f (rw e at g))

  takes_all : (m : ℕ) → m ≤ length lines / 2 → Takes n lines round u m s (up_to (take_line lines round u) s m)
  unfolding up_to
  takes_all zero h = takes_none
  takes_all (suc m) h =
      let t = up_to (take_line lines round u) s m in
      takes_more m t h (takes_all m (omega arith)) (take_line lines round u m t)
      (take_line_grown lines round u m round t (omega arith)) (turn n lines round u m h (simple.proper.apart m h) t)

  -- THEOREM. What the scan of u does.
  pub scan_takes : Takes n lines round u (length lines / 2) s (scan_station lines round u s)
  unfolding scan_station
  scan_takes = takes_all (length lines / 2) (omega arith)
