-- The tables of a round, when all lines are seen, say what the definitions say: so the verdicts by the tables are the document's.
-- Assumes nothing.
use Prim.Native.Nat.{ℕ, zero, suc, ◌+◌, ◌/◌, ◌<◌, ◌≤◌}
use mathlib.Core.Path.{◌≡◌, refl, sym, subst, ◌∙◌}
use mathlib.Core.Bool.{Bool, true, false, true≢false}
use mathlib.Core.List.{List}
use mathlib.Core.Logic.{◌≢◌, ◌⊎◌, ◌⊎◌.inl, ◌⊎◌.inr}
use native.Mathlib.Decide.{ℕ_discrete, dec_lt}
use native.Mathlib.Omega.{arith}
use native.Mathlib.Numerals.{add-one}
use borrow.Author.Tests.{lt-ltb, le-ltb, eqb-false, ne_eqb, not-true}
use lib.Dec.{ltb}
use lib.ListN.{length, get_or, set, length-set}
use lib.Seq.{get_or-set_same, get_or-set_other}
use Rattle.laws.specs.Fold.{pick, up_to}
use Rattle.laws.proofs.Fold.{any_some, some_any, first_same}
use Rattle.network.specs.Lines.{end_one, end_two, network, Joins, Joins.forth, Joins.back}
use Rattle.network.specs.Chains.{Hop.by}
use Rattle.network.specs.Orders.{EachOnce}
use Rattle.network.specs.Faults.{Sound}
use Rattle.plans.specs.Orders.{position_of}
use Rattle.plans.specs.Checking.{in_play, of_rank, earliest, has_parent, has_other, parent_verdict, other_verdict, station_verdict, stations_verdict, trees_of, line_verdict, lines_verdict}
use Rattle.seen.specs.Tables.{Seen, see_between, see_line, see_lines, Blank, plant, plant_all}
use Rattle.entries.specs.Placed.{Placed}
use Rattle.rounds.specs.Tables.{seen_verdict, all_seen_verdict, trees_verdict, all_trees_verdict}
use Rattle.plans.specs.Verdicts.{Verdict.accepted, is_faulty}
use Rattle.plans.specs.Faults.{Beside, Tied}
use Rattle.plans.proofs.Hops.{in_play_lem, play_in, of_rank_lem, rank_of, linked_tied, tied_linked, first_beside, searched, Searched, earliest_one}
use Rattle.plans.proofs.Orders.{position_order, position_below, order_position}
use Rattle.rounds.proofs.Seeing.{Line, Right, blank_right, right_out, right_from}
use Rattle.plans.proofs.Trees.{tree_kept, tree_new}
use Rattle.laws.proofs.Truth.{both_true, same_truth}

module _ (n : ℕ) (lines ranks : List ℕ) (i : ℕ) (order positions : List ℕ) (s : Sound n lines) (O : EachOnce n order) (P : Placed n order n positions) where
  -- the table of positions
  pub placed_at : (v : ℕ) → v < n → get_or positions v 0 ≡ position_of n order v
  unfolding position_of
  placed_at v l = P.at v l

  pub placed_below : (v : ℕ) → v < n → get_or positions v 0 < n
  placed_below v l = rw (placed_at v l) (position_below n order O v l)

  placed_order : (v : ℕ) → v < n → get_or order (get_or positions v 0) 0 ≡ v
  placed_order v l = rw (placed_at v l) (order_position n order O v l)

  ranked_in_play : (q : ℕ) → of_rank ranks i q ≡ true → in_play ranks i q ≡ true
  ranked_in_play q e = play_in ranks i q (inr (omega (arith, of_rank_lem ranks i q e)))

  unranked : (p : ℕ) → in_play ranks i p ≡ false → of_rank ranks i p ≡ false
  unranked p e = go (of_rank ranks i p) refl
    where
      go : (b : Bool) → of_rank ranks i p ≡ b → of_rank ranks i p ≡ false
      go true f = absurd (true≢false (sym (ranked_in_play p f) ∙ e))
      go false f = f

  -- ── one line more ──

  module _ (p : ℕ) (place : p < length lines / 2) (t : Seen) (R : Right n lines ranks i order p t) where
    -- the positions of its ends
    abbrev x : ℕ
    x = get_or positions (end_one lines p) 0

    abbrev y : ℕ
    y = get_or positions (end_two lines p) 0

    one_in : end_one lines p < n
    one_in = s.simple.proper.one_in p place

    two_in : end_two lines p < n
    two_in = s.simple.proper.two_in p place

    loopless : (q j : ℕ) → q < p → ¬ Joins (network n lines) q (get_or order j 0) (get_or order j 0)
    loopless q j l (forth a b) = s.simple.proper.apart q (omega arith) (a ∙ sym b)
    loopless q j l (back a b) = s.simple.proper.apart q (omega arith) (a ∙ sym b)

    -- the line's ends, by positions
    joins_at : (j h : ℕ) → j < n → h < n → Joins (network n lines) p (get_or order j 0) (get_or order h 0) → ((x ≡ j) × (y ≡ h)) ⊎ ((x ≡ h) × (y ≡ j))
    joins_at j h l b (forth a c) = inl (rw a (placed_at _ (O.station j l) ∙ position_order n order O j l), rw c (placed_at _ (O.station h b) ∙ position_order n order O h b))
    joins_at j h l b (back a c) = inr (rw a (placed_at _ (O.station h b) ∙ position_order n order O h b), rw c (placed_at _ (O.station j l) ∙ position_order n order O j l))

    -- no earlier line joins the same two stations
    fresh : (j h : ℕ) → Joins (network n lines) p (get_or order j 0) (get_or order h 0) → ¬ Line n lines order (in_play ranks i) p j h
    fresh j h it q = let e : q.place ≡ p = s.simple.once q.place p _ _ (omega (arith, q.below)) place q.joins it in omega (arith, q.below)

    between : in_play ranks i p ≡ true → Dec (x < y) → Right n lines ranks i order (p + 1) (see_between x y (of_rank ranks i p) t)
    unfolding see_between
    between e (yes less) =
        rw (lt-ltb _ _ less)
        (right_from n lines ranks i order p t R y x less (placed_below _ two_in) e ranked_in_play it only (fresh y x it) loopless)
      where
        it : Joins (network n lines) p (get_or order y 0) (get_or order x 0)
        it = rw (placed_order _ one_in, placed_order _ two_in) (back refl refl)

        only : (j h : ℕ) → j < n → h ≤ j → Joins (network n lines) p (get_or order j 0) (get_or order h 0) → (j ≡ y) × (h ≡ x)
        only j h l b q = go (joins_at j h l (omega arith) q)
          where
            go : ((x ≡ j) × (y ≡ h)) ⊎ ((x ≡ h) × (y ≡ j)) → (j ≡ y) × (h ≡ x)
            go (inl (a, c)) = absurd (omega arith)
            go (inr (a, c)) = (sym c, sym a)
    between e (no more) =
        rw (le-ltb x y (omega arith))
        (right_from n lines ranks i order p t R x y less (placed_below _ one_in) e ranked_in_play it only (fresh x y it) loopless)
      where
        it : Joins (network n lines) p (get_or order x 0) (get_or order y 0)
        it = rw (placed_order _ one_in, placed_order _ two_in) (forth refl refl)

        less : y < x
        less = let apart : x ≢ y = (λ z. s.simple.proper.apart p place (sym (placed_order _ one_in) ∙ (rw z (placed_order _ two_in)))) in omega arith

        only : (j h : ℕ) → j < n → h ≤ j → Joins (network n lines) p (get_or order j 0) (get_or order h 0) → (j ≡ x) × (h ≡ y)
        only j h l b q = go (joins_at j h l (omega arith) q)
          where
            go : ((x ≡ j) × (y ≡ h)) ⊎ ((x ≡ h) × (y ≡ j)) → (j ≡ x) × (h ≡ y)
            go (inl (a, c)) = (sym a, sym c)
            go (inr (a, c)) = absurd (omega (arith, less))

    line_right : Right n lines ranks i order (p + 1) (see_line lines ranks i positions p t)
    unfolding see_line
    line_right = go (in_play ranks i p) refl
      where
        go : (b : Bool) → in_play ranks i p ≡ b → Right n lines ranks i order (p + 1) (pick b (see_between x y (of_rank ranks i p) t) t)
        go true e = between e (dec_lt x y)
        go false e = right_out n lines ranks i order p t R e (unranked p e)

  -- ── all lines ──

  first_right : (t : Seen) → Blank n t → (count : ℕ) → count ≤ length lines / 2 → Right n lines ranks i order count (up_to (see_line lines ranks i positions) t count)
  unfolding up_to
  first_right t B zero h = blank_right n lines ranks i order t B
  first_right t B (suc count) h =
      subst (λ (k : ℕ). Right n lines ranks i order k (see_line lines ranks i positions count (up_to (see_line lines ranks i positions) t count))) (add-one count)
      (line_right count (omega arith) (up_to (see_line lines ranks i positions) t count) (first_right t B count (omega arith)))

  pub lines_right : (t : Seen) → Blank n t → Right n lines ranks i order (length lines / 2) (see_lines lines ranks i positions t)
  unfolding see_lines
  lines_right t B = first_right t B (length lines / 2) (omega arith)

  -- ── what the tables say ──

  module _ (t : Seen) (R : Right n lines ranks i order (length lines / 2) t) (j : ℕ) (l : j < n) where
    line_beside : (h : ℕ) → Line n lines order (in_play ranks i) (length lines / 2) j h → Beside n lines ranks i order j h
    line_beside h q = by q.place q.below (in_play_lem ranks i q.place q.passes) q.joins

    beside_line : (h : ℕ) → Beside n lines ranks i order j h → Line n lines order (in_play ranks i) (length lines / 2) j h
    beside_line h (by p below e joins) = record { place = p; below = below; passes = play_in ranks i p e; joins = joins }

    line_tied : (h : ℕ) → Line n lines order (of_rank ranks i) (length lines / 2) j h → Tied n lines ranks i order j h
    line_tied h q = by q.place q.below (of_rank_lem ranks i q.place q.passes) q.joins

    tied_line : (h : ℕ) → Tied n lines ranks i order j h → Line n lines order (of_rank ranks i) (length lines / 2) j h
    tied_line h (by p below e joins) = record { place = p; below = below; passes = rank_of ranks i p e; joins = joins }

    pub seen_earliest : get_or t.earliest j 0 ≡ earliest lines ranks i order (length lines / 2) j
    seen_earliest = go (dec_lt (get_or t.earliest j 0) j) (searched n lines ranks i order j)
      where
        go : Dec (get_or t.earliest j 0 < j) → Searched n lines ranks i order j → get_or t.earliest j 0 ≡ first_beside n lines ranks i order j
        go (yes b) (inl (less, found)) =
            earliest_one n lines ranks i order
            (record { earlier = b; beside = line_beside _ (R.found j l b); first = λ h c q. R.first j l h c (beside_line h q) }) found
        go (yes b) (inr (same, none)) = absurd (none _ b (line_beside _ (R.found j l b)))
        go (no m) (inl (less, found)) = absurd (R.first j l _ (omega (arith, R.low j l)) (beside_line _ found.beside))
        go (no m) (inr (same, none)) = omega (arith, R.low j l)

    pub seen_parent : get_or t.parents j false ≡ has_parent lines ranks i order (length lines / 2) j
    unfolding has_parent
    seen_parent =
        same_truth _ _
        (λ e. tied_linked n lines ranks i order j _ (rw (← seen_earliest) (line_tied _ (R.parent_so j l e))))
        (λ e. R.parent_is j l (tied_line _ (rw seen_earliest (linked_tied n lines ranks i order j _ e))))

    pub seen_other : get_or t.others j false ≡ has_other lines ranks i order (length lines / 2) j
    unfolding has_other
    seen_other = same_truth _ _ so is
      where
        so : get_or t.others j false ≡ true → has_other lines ranks i order (length lines / 2) j ≡ true
        so e =
            let (h, b, m, q) = R.other_so j l e in
            some_any _ j h b (rw (ne_eqb h (first_beside n lines ranks i order j) (λ z. m (z ∙ sym seen_earliest)), tied_linked n lines ranks i order j h (line_tied h q)))

        is : has_other lines ranks i order (length lines / 2) j ≡ true → get_or t.others j false ≡ true
        is e =
            let (h, b, f) = any_some _ j e in
            let (a, c) = both_true _ _ f in
            R.other_is j l h b (λ z. eqb-false h (first_beside n lines ranks i order j) (not-true _ a) (z ∙ seen_earliest)) (tied_line h (linked_tied n lines ranks i order j h c))

  module _ (t : Seen) (R : Right n lines ranks i order (length lines / 2) t) where
    pub stations_verdict_lem : all_seen_verdict n i order t ≡ stations_verdict n lines ranks i order
    unfolding all_seen_verdict stations_verdict seen_verdict station_verdict parent_verdict other_verdict
    stations_verdict_lem =
        first_same is_faulty _ _ accepted n 0
        (λ j a b. let l : j < n = omega arith in rw (seen_earliest t R j l, seen_parent t R j l, seen_other t R j l))

    -- the table of trees after the first positions
    module _ (table : List ℕ) (size : length table ≡ n) where
      abbrev planted : ℕ → List ℕ
      planted = up_to (plant t.earliest) table

      planted_size : (count : ℕ) → length (planted count) ≡ n
      unfolding up_to plant
      planted_size zero = size
      planted_size (suc count) = length-set (planted count) count _ ∙ planted_size count

      trees_right : (count : ℕ) → count ≤ n → (j : ℕ) → j < count → get_or (planted count) j 0 ≡ get_or (trees_of lines ranks i order count) j 0
      unfolding up_to plant
      trees_right zero h j b = absurd (omega arith)
      trees_right (suc count) h j b = go (ℕ_discrete j count) (trees_right count (omega arith))
        where
          e : ℕ
          e = earliest lines ranks i order (length lines / 2) count

          go : Dec (j ≡ count) → ((x : ℕ) → x < count → get_or (planted count) x 0 ≡ get_or (trees_of lines ranks i order count) x 0)
              → get_or (set (planted count) count (pick (ltb (get_or t.earliest count 0) count) (get_or (planted count) (get_or t.earliest count 0) 0) count)) j 0
              ≡ get_or (trees_of lines ranks i order (suc count)) j 0
          go (yes f) ih =
              rw (f, get_or-set_same (planted count) count (pick (ltb (get_or t.earliest count 0) count) (get_or (planted count) (get_or t.earliest count 0) 0) count) 0 (omega (arith, planted_size count)), tree_new n lines ranks i order count, seen_earliest t R count (omega arith))
              (root (dec_lt (first_beside n lines ranks i order count) count))
            where
              root : Dec (first_beside n lines ranks i order count < count)
                  → pick (ltb (first_beside n lines ranks i order count) count) (get_or (planted count) (first_beside n lines ranks i order count) 0) count
                  ≡ pick (ltb (first_beside n lines ranks i order count) count) (get_or (trees_of lines ranks i order count) (first_beside n lines ranks i order count) 0) count
              root (yes c) = rw (lt-ltb _ _ c) (ih _ c)
              root (no m) = rw (le-ltb (first_beside n lines ranks i order count) count (omega arith))
          go (no m) ih = get_or-set_other (planted count) count j _ 0 m ∙ (ih j (omega arith) ∙ sym (tree_kept n lines ranks i order count j (omega arith)))

      pub lines_verdict_lem : all_trees_verdict lines ranks i positions (plant_all n t.earliest table) ≡ lines_verdict n lines ranks i order
      unfolding all_trees_verdict lines_verdict trees_verdict line_verdict plant_all
      lines_verdict_lem =
          first_same is_faulty _ _ accepted (length lines / 2) 0
          (λ p a c.
          let b : p < length lines / 2 = omega arith in
          let one = s.simple.proper.one_in p b in
          let two = s.simple.proper.two_in p b in
          rw (trees_right n (omega arith) (get_or positions (end_one lines p) 0) (placed_below _ one), trees_right n (omega arith) (get_or positions (end_two lines p) 0) (placed_below _ two), placed_at _ one, placed_at _ two))
