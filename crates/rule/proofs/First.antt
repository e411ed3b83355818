-- THEOREM. What a round makes of the lines in play, by positions in its order: a line from a station back to an earlier one is
-- taken just where that one is the first of the station's neighbours in play. Assumes nothing.
use Prim.Native.Nat.{ℕ, suc, ◌/◌, ◌<◌, ◌≤◌}
use mathlib.Core.Path.{◌≡◌, sym, ◌∙◌}
use mathlib.Core.Bool.{true, false}
use mathlib.Core.List.{List}
use mathlib.Core.Logic.{◌≢◌, ◌⊎◌, ◌⊎◌.inl, ◌⊎◌.inr}
use native.Mathlib.Omega.{arith}
use lib.ListN.{length, get_or}
use Rattle.network.specs.Lines.{network, Simple}
use Rattle.network.specs.Orders.{EachOnce}
use Rattle.rule.specs.Rule.{one_round}
use Rattle.rule.proofs.Order.{round_each_once}
use Rattle.rule.proofs.Takes.{Leads}
use Rattle.rule.proofs.Stages.{Earlier, Stage, after, after_all, after_stage}
use Rattle.rule.proofs.Reached.{Neighbour, TakenAt, Why, Why.by_start, Why.by_scan, Why.by_line, Reached, two_ways, start_first, reached}

-- What a round makes of the lines in play, by positions in its order.
pub record ScanFirst (n : ℕ) (lines before after order : List ℕ) (round : ℕ) : Type 0 where
  -- a line keeps its rank, unless it was in play: then its rank is 0 or the round's
  pub old : (p : ℕ) → get_or before p 0 ≢ 0 → get_or after p 0 ≡ get_or before p 0
  pub new : (p : ℕ) → get_or before p 0 ≡ 0 → (get_or after p 0 ≡ 0) ⊎ (get_or after p 0 ≡ round)
  -- the line from a station to the first of its earlier neighbours in play is taken
  pub first_taken : (p h j : ℕ) → h < j → j < n → Leads n lines before p (get_or order j 0) (get_or order h 0)
      → ¬ Neighbour n lines before order h (get_or order j 0) → get_or after p 0 ≡ round
  -- a line that is taken leads from a station to the first of its earlier neighbours in play
  pub taken_first : (p h j : ℕ) → h < j → j < n → Leads n lines before p (get_or order j 0) (get_or order h 0)
      → get_or after p 0 ≡ round → ¬ Neighbour n lines before order h (get_or order j 0)
  -- where a line in play leads from position x back to position e, every position after e up to x has an earlier neighbour in play
  pub no_new_root : (p e x y : ℕ) → x < n → e < y → y ≤ x → Leads n lines before p (get_or order x 0) (get_or order e 0)
      → Neighbour n lines before order y (get_or order y 0)

module _ (n : ℕ) (lines : List ℕ) (simple : Simple (network n lines)) (round start : ℕ) (before : List ℕ)
    (below : (p : ℕ) → get_or before p 0 < round) (size : length before ≡ length lines / 2) (station : start < n) where
  abbrev Order : List ℕ
  Order = (one_round n lines round start before).order

  once : EachOnce n Order
  once = round_each_once n lines round start before

  -- a station stands at one position only
  not_before : (t j : ℕ) → t ≤ j → j < n → ¬ Earlier Order t (get_or Order j 0)
  not_before t j l h k = let e = once.once k.position j (omega (arith, k.below)) h k.is in omega (arith, k.below)

  stands : Reached n lines before Order round start n (one_round n lines round start before)
  stands = rw (after_all n lines round start before) (reached n lines simple round start before below size station n (omega arith))

  taken : (p h j : ℕ) → h < j → j < n → Leads n lines before p (get_or Order j 0) (get_or Order h 0)
      → TakenAt n lines before Order n p → ¬ Neighbour n lines before Order h (get_or Order j 0)
  taken p h j l m leads k = go (two_ways k.joins leads.joins)
    where
      go : ((k.station ≡ get_or Order j 0) × (get_or Order k.position 0 ≡ get_or Order h 0))
          ⊎ ((k.station ≡ get_or Order h 0) × (get_or Order k.position 0 ≡ get_or Order j 0)) → ¬ Neighbour n lines before Order h (get_or Order j 0)
      go (inl (x, y)) = let e = once.once k.position h k.below (omega arith) y in rw (x, e) at k.first
      go (inr (x, y)) =
          let e = once.once k.position j k.below m y in
          absurd (k.later (record { position = h; below = omega arith; is = sym x }))

  -- after y scans the station at position x is marked and not scanned, so the next one is marked too
  next : (y x e p : ℕ) → x < n → e < y → y ≤ x → Leads n lines before p (get_or Order x 0) (get_or Order e 0)
      → Neighbour n lines before Order y (get_or Order y 0)
  next y x e p h l m leads = go (R.why (get_or Order y 0) (S.next (omega arith) (get_or Order x 0) (once.station x h) marked (not_before y x m h)))
    where
      S : Stage n y Order (after n lines round start before y)
      S = after_stage n lines round start before y (omega arith)

      R : Reached n lines before Order round start y (after n lines round start before y)
      R = reached n lines simple round start before below size station y (omega arith)

      marked : get_or (after n lines round start before y).marked (get_or Order x 0) false ≡ true
      marked = R.near (get_or Order x 0) (record { line = p; position = e; below = l; leads = leads })

      go : Why n lines before Order start y y (get_or Order y 0) → Neighbour n lines before Order y (get_or Order y 0)
      go (by_start f) =
          let z = once.once 0 y (omega arith) (omega arith) (start_first n lines simple round start before below size station ∙ sym f) in
          absurd (omega arith)
      go (by_scan k) = absurd (not_before y y (omega arith) (omega arith) k)
      go (by_line k) = k

  -- THEOREM. A round takes, of the lines in play, the one from each station to the first of its earlier neighbours.
  pub round_scan_first : ScanFirst n lines before (one_round n lines round start before).ranks (one_round n lines round start before).order round
  round_scan_first =
      record {
        old = stands.old;
        new = stands.new;
        first_taken = λ p h j l m leads first. stands.takes p h (get_or Order j 0) (omega arith) leads (not_before (suc h) j l m) first;
        taken_first = λ p h j l m leads r. taken p h j l m leads (stands.taken p leads.in_play_lem r);
        no_new_root = λ p e x y h l m leads. next y x e p h l m leads;
      }
