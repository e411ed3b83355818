-- What the check says of one entry, one station and one line: accepted where it is good, and its fault where it has one.
-- Assumes nothing.
use Prim.Native.Nat.{ℕ, ◌/◌, ◌<◌, ◌≤◌}
use mathlib.Core.Path.{◌≡◌, refl, sym, ap, ◌∙◌}
use mathlib.Core.Bool.{Bool, true, false, not, ◌&&◌, ◌||◌, and-false, or-true}
use mathlib.Core.List.{List}
use mathlib.Core.Logic.{◌⊎◌.inl, ◌⊎◌.inr}
use native.Mathlib.Decide.{ℕ_discrete}
use native.Mathlib.Omega.{arith}
use borrow.Author.Tests.{lt-ltb, le-ltb, le-leb, lt-leb, eq-eqb, ne_eqb}
use lib.Dec.{ltb, leb, eqb}
use lib.ListN.{length, get_or}
use Rattle.laws.specs.Fold.{any_from}
use Rattle.laws.proofs.Fold.{first_last, some_any}
use Rattle.network.specs.Lines.{end_one, end_two, network, Proper}
use Rattle.network.specs.Orders.{EachOnce}
use Rattle.plans.specs.Verdicts.{fault_if, Kind, Kind.A, Kind.B, Kind.C, Kind.D, Kind.E, Verdict.accepted, Verdict.faulty}
use Rattle.plans.specs.Orders.{position_of}
use Rattle.plans.specs.Checking.{in_play, rank_verdict, entry_verdict, has_parent, has_other, parent_verdict, other_verdict, station_verdict, line_verdict}
use Rattle.plans.specs.Plans.{InPlay}
use Rattle.plans.specs.Faults.{EntryGood, EntryFault, EntryFault.outside, EntryFault.stood, Beside, Tied, Earliest, StationGood, StationFault, StationFault.parent, StationFault.other, EndsJoined}
use Rattle.plans.proofs.Hops.{in_play_lem, play_in, linked_tied, tied_linked, is_tied, first_beside, Searched, searched, earliest_one}
use Rattle.plans.proofs.Trees.{tree, joined_tree, tree_joined}

-- ── A ──

module _ (k : ℕ) (ranks : List ℕ) (p : ℕ) where
  pub rank_accepted : get_or ranks p 0 ≤ k → rank_verdict k ranks p ≡ accepted
  unfolding rank_verdict
  rank_accepted h = rw (le-ltb k (get_or ranks p 0) h)

  pub rank_faulty : k < get_or ranks p 0 → rank_verdict k ranks p ≡ faulty 0 A p
  unfolding rank_verdict
  rank_faulty h = rw (lt-ltb k (get_or ranks p 0) h)

-- ── B ──

module _ (n i : ℕ) (order : List ℕ) (j : ℕ) where
  -- the two tests of an entry
  abbrev no_station : Bool
  no_station = leb n (get_or order j 0)

  abbrev stood_before_here : Bool
  stood_before_here = any_from (λ h. eqb (get_or order h 0) (get_or order j 0)) 0 j

  pub entry_accepted : EntryGood n order j → entry_verdict n i order j ≡ accepted
  unfolding entry_verdict
  entry_accepted g = ap (λ b. fault_if (b || stood_before_here) i B j) (lt-leb n (get_or order j 0) g.station) ∙ ap (λ b. fault_if b i B j) new
    where
      new : stood_before_here ≡ false
      new = first_last (λ b. b) (λ h. eqb (get_or order h 0) (get_or order j 0)) false j (λ h l. ne_eqb (get_or order h 0) (get_or order j 0) (g.new h l))

  pub entry_faulty : EntryFault n order j → entry_verdict n i order j ≡ faulty i B j
  unfolding entry_verdict
  entry_faulty (outside h) = ap (λ b. fault_if (b || stood_before_here) i B j) (le-leb n (get_or order j 0) h)
  entry_faulty (stood h l e) = ap (λ b. fault_if (no_station || b) i B j) found ∙ ap (λ b. fault_if b i B j) (or-true no_station)
    where
      found : stood_before_here ≡ true
      found = some_any (λ h. eqb (get_or order h 0) (get_or order j 0)) j h l (eq-eqb (get_or order h 0) (get_or order j 0) e)

-- ── C and D ──

module _ (n : ℕ) (lines ranks : List ℕ) (i : ℕ) (order : List ℕ) (j : ℕ) where
  -- the position that the check takes for the earliest, and its test of a rank-i line
  abbrev e : ℕ
  e = first_beside n lines ranks i order j

  abbrev tied : ℕ → Bool
  tied = is_tied n lines ranks i order j

  -- e is the earliest, where there is one
  is_earliest : (h : ℕ) → Earliest n lines ranks i order j h → (e < j) × (e ≡ h)
  is_earliest h found = go (searched n lines ranks i order j)
    where
      go : Searched n lines ranks i order j → (e < j) × (e ≡ h)
      go (inl (less, own)) = (less, earliest_one n lines ranks i order own found)
      go (inr (same, N)) = absurd (N h found.earlier found.beside)

  parent_accepted : ((h : ℕ) → Earliest n lines ranks i order j h → Tied n lines ranks i order j h) → parent_verdict lines ranks i order j ≡ accepted
  unfolding parent_verdict has_parent
  parent_accepted good = go (searched n lines ranks i order j)
    where
      go : Searched n lines ranks i order j → parent_verdict lines ranks i order j ≡ accepted
      go (inl (less, found)) = rw (tied_linked n lines ranks i order j e (good e found), and-false (ltb e j))
      go (inr (same, N)) = rw (le-ltb e j (omega arith))

  parent_faulty : (h : ℕ) → Earliest n lines ranks i order j h → ¬ Tied n lines ranks i order j h → parent_verdict lines ranks i order j ≡ faulty i C (get_or order j 0)
  unfolding parent_verdict has_parent
  parent_faulty h found bad = let (less, is) = is_earliest h found in rw (lt-ltb e j less, is, untied (tied h) refl)
    where
      untied : (b : Bool) → tied h ≡ b → tied h ≡ false
      untied true x = absurd (bad (linked_tied n lines ranks i order j h x))
      untied false x = x

  other_accepted : ((h : ℕ) → h < j → Tied n lines ranks i order j h → Earliest n lines ranks i order j h) → other_verdict lines ranks i order j ≡ accepted
  unfolding other_verdict has_other
  other_accepted good = rw none
    where
      test : ℕ → Bool
      test h = not (eqb h e) && tied h

      at : (h : ℕ) → h < j → (b : Bool) → tied h ≡ b → test h ≡ false
      at h l true x = rw (eq-eqb h e (sym (is_earliest h (good h l (linked_tied n lines ranks i order j h x))).1))
      at h l false x = rw (x, and-false (not (eqb h e)))

      none : any_from test 0 j ≡ false
      none = first_last (λ b. b) test false j (λ h l. at h l (tied h) refl)

  other_faulty : (h x : ℕ) → h < j → Tied n lines ranks i order j h → x < h → Beside n lines ranks i order j x → other_verdict lines ranks i order j ≡ faulty i D (get_or order j 0)
  unfolding other_verdict has_other
  other_faulty h x l r m b = rw some
    where
      another : Searched n lines ranks i order j → h ≡ e → ⊥
      another (inl (less, found)) is = found.first x (omega arith) b
      another (inr (same, N)) is = omega arith

      some : any_from (λ h. not (eqb h e) && tied h) 0 j ≡ true
      some = some_any (λ h. not (eqb h e) && tied h) j h l
          (rw (ne_eqb h e (another (searched n lines ranks i order j)), tied_linked n lines ranks i order j h r))

  pub station_accepted : StationGood n lines ranks i order j → station_verdict lines ranks i order j ≡ accepted
  unfolding station_verdict
  station_accepted g = rw (parent_accepted g.parent, other_accepted g.no_other)

  pub station_faulty : {kind : Kind} → StationFault n lines ranks i order j kind → station_verdict lines ranks i order j ≡ faulty i kind (get_or order j 0)
  unfolding station_verdict
  station_faulty (parent h found bad) = rw (parent_faulty h found bad)
  station_faulty (other good h x l r m b) = rw (parent_accepted good, other_faulty h x l r m b)

-- ── E ──

module _ (n : ℕ) (lines ranks : List ℕ) (i : ℕ) (order : List ℕ) (P : Proper (network n lines)) (O : EachOnce n order)
    (good : (j : ℕ) → j < n → StationGood n lines ranks i order j) (p : ℕ) (here : p < length lines / 2)
  where
    -- the trees of its ends
    abbrev one : ℕ
    one = tree n lines ranks i order (position_of n order (end_one lines p))

    abbrev two : ℕ
    two = tree n lines ranks i order (position_of n order (end_two lines p))

    -- the ends of line p are joined by rank-i lines just where they are in one tree
    joined_same : EndsJoined n lines ranks i p → one ≡ two
    joined_same c = joined_tree n lines ranks i order P O good c

    same_joined : one ≡ two → EndsJoined n lines ranks i p
    same_joined e = tree_joined n lines ranks i order P O good (end_one lines p) (end_two lines p) (P.one_in p here) (P.two_in p here) e

    pub joined_or_not : Dec (EndsJoined n lines ranks i p)
    joined_or_not = go (ℕ_discrete one two)
      where
        go : Dec (one ≡ two) → Dec (EndsJoined n lines ranks i p)
        go (yes e) = yes (same_joined e)
        go (no m) = no (λ c. m (joined_same c))

    pub line_accepted : (InPlay ranks i p → EndsJoined n lines ranks i p) → line_verdict n lines ranks i order p ≡ accepted
    unfolding line_verdict
    line_accepted joined = go (in_play ranks i p) refl
      where
        go : (b : Bool) → in_play ranks i p ≡ b → line_verdict n lines ranks i order p ≡ accepted
        go true h = rw (eq-eqb one two (joined_same (joined (in_play_lem ranks i p h))), and-false (in_play ranks i p))
        go false h = rw h

    pub line_faulty : InPlay ranks i p → ¬ EndsJoined n lines ranks i p → line_verdict n lines ranks i order p ≡ faulty i E p
    unfolding line_verdict
    line_faulty h bad = rw (play_in ranks i p h, ne_eqb one two (λ (e : one ≡ two). bad (same_joined e)))
