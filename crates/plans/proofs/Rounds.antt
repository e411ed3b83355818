-- What the check says of a round: accepted where it is without a fault, and else its first fault.
-- Assumes nothing.
use Prim.Native.Nat.{ℕ, zero, suc, ◌/◌, ◌<◌, ◌≤◌}
use mathlib.Core.Path.{◌≡◌, refl, sym, ap, ◌∙◌}
use mathlib.Core.Bool.{Bool, true, false, true≢false}
use mathlib.Core.List.{List}
use mathlib.Core.Logic.{◌≢◌, ◌⊎◌, ◌⊎◌.inl, ◌⊎◌.inr}
use native.Mathlib.Decide.{ℕ_discrete, dec_lt, dec_le}
use native.Mathlib.Omega.{arith}
use lib.ListN.{length, get_or}
use Rattle.laws.proofs.Decide.{dec_and, dec_not, some_below}
use Rattle.laws.proofs.Fold.{first_last, first_all, first_at}
use Rattle.network.specs.Lines.{network, Proper}
use Rattle.network.specs.Orders.{EachOnce}
use Rattle.plans.specs.Verdicts.{Kind, Kind.B, Kind.C, Kind.D, Kind.E, Verdict.accepted, Verdict.faulty, is_faulty}
use Rattle.plans.specs.Checking.{in_play, entry_verdict, order_verdict, station_verdict, stations_verdict, line_verdict, lines_verdict, round_verdict}
use Rattle.plans.specs.Plans.{InPlay}
use Rattle.plans.specs.Faults.{EntryGood, EntryFault, EntryFault.outside, EntryFault.stood, Beside, Tied, Earliest, StationGood, StationFault, StationFault.parent, StationFault.other, EndsJoined, RoundFault, RoundFault.entry, RoundFault.station, RoundFault.line}
use Rattle.plans.proofs.Hops.{in_play_lem, play_in, tied_or_not, first_beside, Searched, searched, earliest_one}
use Rattle.plans.proofs.Orders.{good_each_once, each_once_good}
use Rattle.plans.proofs.Greedy.{RoundGood, ranked_playing}
use Rattle.plans.proofs.Faults.{entry_accepted, entry_faulty, station_accepted, station_faulty, joined_or_not, line_accepted, line_faulty}

-- Of things that are each good or at fault: all below m are good, or there is a first one at fault.
pub all_or_first : (Good Fault : ℕ → Type 0) (m : ℕ) → ((j : ℕ) → j < m → Good j ⊎ Fault j)
    → ((j : ℕ) → j < m → Good j) ⊎ ((j : ℕ) × (j < m) × ((h : ℕ) → h < j → Good h) × Fault j)
all_or_first Good Fault zero cases = inl (λ j l. absurd (omega arith))
all_or_first Good Fault (suc m) cases = go (all_or_first Good Fault m (λ j l. cases j (omega arith))) (cases m (omega arith))
  where
    go : ((j : ℕ) → j < m → Good j) ⊎ ((j : ℕ) × (j < m) × ((h : ℕ) → h < j → Good h) × Fault j) → Good m ⊎ Fault m
        → ((j : ℕ) → j < suc m → Good j) ⊎ ((j : ℕ) × (j < suc m) × ((h : ℕ) → h < j → Good h) × Fault j)
    go (inr (j, l, before, f)) c = inr (j, omega arith, before, f)
    go (inl before) (inr f) = inr (m, omega arith, before, f)
    go (inl before) (inl g) = inl (λ j l. last j l (ℕ_discrete j m))
      where
        last : (j : ℕ) → j < suc m → Dec (j ≡ m) → Good j
        last j l (yes e) = rw e g
        last j l (no o) = before j (omega arith)

-- An entry is good or at fault.
entry_cases : (n : ℕ) (order : List ℕ) (j : ℕ) → EntryGood n order j ⊎ EntryFault n order j
entry_cases n order j = go (dec_le n (get_or order j 0)) (some_below (λ h. get_or order h 0 ≡ get_or order j 0) (λ h. ℕ_discrete (get_or order h 0) (get_or order j 0)) j)
  where
    go : Dec (n ≤ get_or order j 0)
        → ((h : ℕ) × (h < j) × (get_or order h 0 ≡ get_or order j 0)) ⊎ ((h : ℕ) → h < j → ¬ (get_or order h 0 ≡ get_or order j 0))
        → EntryGood n order j ⊎ EntryFault n order j
    go (yes h) c = inr (outside h)
    go (no m) (inl (h, l, e)) = inr (stood h l e)
    go (no m) (inr new) = inl (record { station = omega arith; new = new })

-- Where B finds no fault, the order has each station once.
pub order_each_once : (n i : ℕ) (order : List ℕ) → length order ≡ n → is_faulty (order_verdict n i order) ≡ false → EachOnce n order
unfolding order_verdict
order_each_once n i order size e = good_each_once n order (λ j l. go j l (entry_cases n order j)) size
  where
    go : (j : ℕ) → j < n → EntryGood n order j ⊎ EntryFault n order j → EntryGood n order j
    go j l (inl good) = good
    go j l (inr fault) = absurd (true≢false (sym (ap is_faulty (entry_faulty n i order j fault)) ∙ first_all is_faulty (entry_verdict n i order) accepted n e j l))

-- What is to be decided: a round is without a fault, or has a first one.
abbrev pub RoundCases : ℕ → List ℕ → List ℕ → ℕ → List ℕ → Type 0
RoundCases n lines ranks i order = RoundGood n lines ranks i order ⊎ ((kind : Kind) × (place : ℕ) × RoundFault n lines ranks i order kind place)

module _ (n : ℕ) (lines ranks : List ℕ) (i : ℕ) (order : List ℕ) where
  -- the station at position j has a fault of some kind
  abbrev AnyFault : ℕ → Type 0
  AnyFault j = (kind : Kind) × StationFault n lines ranks i order j kind

  -- a station without an earlier neighbour in play is good
  alone_good : (j : ℕ) → ((h : ℕ) → h < j → ¬ Beside n lines ranks i order j h) → StationGood n lines ranks i order j
  alone_good j none =
      record {
        parent = λ h found. absurd (none h found.earlier found.beside);
        no_other = λ h l r. absurd (none h l (ranked_playing n lines ranks i order r));
      }

  -- one with the earliest of them at e is good, or has a first fault
  with_earliest : (j e : ℕ) → Earliest n lines ranks i order j e → StationGood n lines ranks i order j ⊎ AnyFault j
  with_earliest j e found =
      go (tied_or_not n lines ranks i order j e)
      (some_below (λ h. Tied n lines ranks i order j h × (h ≢ e)) (λ h. dec_and (tied_or_not n lines ranks i order j h) (dec_not (ℕ_discrete h e))) j)
    where
      kept : Tied n lines ranks i order j e → (h : ℕ) → Earliest n lines ranks i order j h → Tied n lines ranks i order j h
      kept r h own = rw (earliest_one n lines ranks i order found own) at r

      only : ((h : ℕ) → h < j → ¬ (Tied n lines ranks i order j h × (h ≢ e))) → (h : ℕ) → h < j → Tied n lines ranks i order j h
          → Dec (h ≡ e) → Earliest n lines ranks i order j h
      only none h l r (yes same) = rw same found
      only none h l r (no m) = absurd (none h l (r, m))

      later : (h : ℕ) → Tied n lines ranks i order j h → h ≢ e → Dec (h < e) → e < h
      later h r m (yes l) = absurd (found.first h l (ranked_playing n lines ranks i order r))
      later h r m (no o) = omega arith

      go : Dec (Tied n lines ranks i order j e)
          → ((h : ℕ) × (h < j) × (Tied n lines ranks i order j h × (h ≢ e))) ⊎ ((h : ℕ) → h < j → ¬ (Tied n lines ranks i order j h × (h ≢ e)))
          → StationGood n lines ranks i order j ⊎ AnyFault j
      go (no bad) c = inr (C, parent e found bad)
      go (yes r) (inl (h, l, x)) = inr (D, other (kept r) h e l x.0 (later h x.0 x.1 (dec_lt h e)) found.beside)
      go (yes r) (inr none) = inl (record { parent = kept r; no_other = λ h l x. only none h l x (ℕ_discrete h e) })

  station_cases : (j : ℕ) → StationGood n lines ranks i order j ⊎ AnyFault j
  station_cases j = go (searched n lines ranks i order j)
    where
      go : Searched n lines ranks i order j → StationGood n lines ranks i order j ⊎ AnyFault j
      go (inl (less, found)) = with_earliest j (first_beside n lines ranks i order j) found
      go (inr (same, none)) = inl (alone_good j none)

  module _ (P : Proper (network n lines)) where
    -- a line is good, or in play with ends that are not joined
    line_cases : EachOnce n order → ((j : ℕ) → j < n → StationGood n lines ranks i order j) → (p : ℕ) → p < length lines / 2
        → (InPlay ranks i p → EndsJoined n lines ranks i p) ⊎ (InPlay ranks i p × ¬ EndsJoined n lines ranks i p)
    line_cases O good p l = go (in_play ranks i p) refl (joined_or_not n lines ranks i order P O good p l)
      where
        go : (b : Bool) → in_play ranks i p ≡ b → Dec (EndsJoined n lines ranks i p)
            → (InPlay ranks i p → EndsJoined n lines ranks i p) ⊎ (InPlay ranks i p × ¬ EndsJoined n lines ranks i p)
        go b h (yes c) = inl (λ x. c)
        go true h (no m) = inr (in_play_lem ranks i p h, m)
        go false h (no m) = inl (λ x. absurd (true≢false (sym (play_in ranks i p x) ∙ h)))

    -- THEOREM. A round is without a fault, or has a first one.
    pub round_cases : length order ≡ n → RoundCases n lines ranks i order
    round_cases size = entries (all_or_first (EntryGood n order) (EntryFault n order) n (λ j l. entry_cases n order j))
      where
        in_lines : (O : EachOnce n order) (good : (j : ℕ) → j < n → StationGood n lines ranks i order j)
            → ((p : ℕ) → p < length lines / 2 → InPlay ranks i p → EndsJoined n lines ranks i p)
            ⊎ ((p : ℕ) × (p < length lines / 2) × ((q : ℕ) → q < p → InPlay ranks i q → EndsJoined n lines ranks i q) × (InPlay ranks i p × ¬ EndsJoined n lines ranks i p))
            → RoundCases n lines ranks i order
        in_lines O good (inl ends) = inl (record { each_once = O; stations = good; ends = ends })
        in_lines O good (inr (p, l, before, f)) = inr (E, p, line O good p l before f.0 f.1)

        stations : EachOnce n order
            → ((j : ℕ) → j < n → StationGood n lines ranks i order j)
            ⊎ ((j : ℕ) × (j < n) × ((h : ℕ) → h < j → StationGood n lines ranks i order h) × AnyFault j)
            → RoundCases n lines ranks i order
        stations O (inl good) =
            in_lines O good
            (all_or_first (λ p. InPlay ranks i p → EndsJoined n lines ranks i p) (λ p. InPlay ranks i p × ¬ EndsJoined n lines ranks i p) (length lines / 2)
            (line_cases O good))
        stations O (inr (j, l, before, f)) = inr (f.0, get_or order j 0, station O j l before f.1)

        entries : ((j : ℕ) → j < n → EntryGood n order j) ⊎ ((j : ℕ) × (j < n) × ((h : ℕ) → h < j → EntryGood n order h) × EntryFault n order j) → RoundCases n lines ranks i order
        entries (inl good) =
            stations (good_each_once n order good size) (all_or_first (StationGood n lines ranks i order) AnyFault n (λ j l. station_cases j))
        entries (inr (j, l, before, f)) = inr (B, j, entry j l before f)

  -- ── what the check says ──

  order_accepted : EachOnce n order → order_verdict n i order ≡ accepted
  unfolding order_verdict
  order_accepted O = first_last is_faulty (entry_verdict n i order) accepted n (λ j l. rw (entry_accepted n i order j (each_once_good n order O j l)))

  order_faulty : (j : ℕ) → j < n → ((h : ℕ) → h < j → EntryGood n order h) → EntryFault n order j → order_verdict n i order ≡ faulty i B j
  unfolding order_verdict
  order_faulty j l before f =
      first_at is_faulty (entry_verdict n i order) accepted n j l (rw (entry_faulty n i order j f)) (λ h m. rw (entry_accepted n i order h (before h m)))
      ∙ entry_faulty n i order j f

  stations_accepted : ((j : ℕ) → j < n → StationGood n lines ranks i order j) → stations_verdict n lines ranks i order ≡ accepted
  unfolding stations_verdict
  stations_accepted good = first_last is_faulty (station_verdict lines ranks i order) accepted n (λ j l. rw (station_accepted n lines ranks i order j (good j l)))

  stations_faulty : {kind : Kind} (j : ℕ) → j < n → ((h : ℕ) → h < j → StationGood n lines ranks i order h) → StationFault n lines ranks i order j kind
      → stations_verdict n lines ranks i order ≡ faulty i kind (get_or order j 0)
  unfolding stations_verdict
  stations_faulty j l before f =
      first_at is_faulty (station_verdict lines ranks i order) accepted n j l (rw (station_faulty n lines ranks i order j f))
      (λ h m. rw (station_accepted n lines ranks i order h (before h m)))
      ∙ station_faulty n lines ranks i order j f

  module _ (P : Proper (network n lines)) where
    lines_accepted : RoundGood n lines ranks i order → lines_verdict n lines ranks i order ≡ accepted
    unfolding lines_verdict
    lines_accepted G =
        first_last is_faulty (line_verdict n lines ranks i order) accepted (length lines / 2)
        (λ p l. rw (line_accepted n lines ranks i order P G.each_once G.stations p l (G.ends p l)))

    lines_faulty : EachOnce n order → ((j : ℕ) → j < n → StationGood n lines ranks i order j)
        → (p : ℕ) → p < length lines / 2 → ((q : ℕ) → q < p → InPlay ranks i q → EndsJoined n lines ranks i q)
        → InPlay ranks i p → ¬ EndsJoined n lines ranks i p → lines_verdict n lines ranks i order ≡ faulty i E p
    unfolding lines_verdict
    lines_faulty O good p l before h bad =
        first_at is_faulty (line_verdict n lines ranks i order) accepted (length lines / 2) p l (rw (line_faulty n lines ranks i order P O good p l h bad))
        (λ q m. rw (line_accepted n lines ranks i order P O good q (omega arith) (before q m)))
        ∙ line_faulty n lines ranks i order P O good p l h bad

    -- THEOREM. A round without a fault is accepted.
    pub good_accepted : RoundGood n lines ranks i order → round_verdict n lines ranks i order ≡ accepted
    unfolding round_verdict
    good_accepted G = rw (order_accepted G.each_once, stations_accepted G.stations, lines_accepted G)

    -- THEOREM. The first fault of a round is what the check says of it.
    pub round_faulty : {kind : Kind} {place : ℕ} → RoundFault n lines ranks i order kind place → round_verdict n lines ranks i order ≡ faulty i kind place
    unfolding round_verdict
    round_faulty (entry j l before f) = rw (order_faulty j l before f)
    round_faulty (station O j l before f) = rw (order_accepted O, stations_faulty j l before f)
    round_faulty (line O good p l before h bad) = rw (order_accepted O, stations_accepted good, lines_faulty O good p l before h bad)
