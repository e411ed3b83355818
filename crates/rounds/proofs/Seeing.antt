-- What the tables of a round tell after the first lines: the earliest earlier neighbour in play of each position, whether the line to it
-- has the round's rank, and whether another line of that rank leads to an earlier station.
-- Assumes nothing.
use Prim.Native.Nat.{ℕ, ◌+◌, ◌<◌, ◌≤◌}
use mathlib.Core.Path.{◌≡◌, refl, sym, ap, ◌∙◌}
use mathlib.Core.Bool.{Bool, true, false, true≢false}
use mathlib.Core.List.{List}
use mathlib.Core.Logic.{◌≢◌, ◌⊎◌, ◌⊎◌.inl, ◌⊎◌.inr}
use native.Mathlib.Decide.{ℕ_discrete, dec_lt}
use native.Mathlib.Omega.{arith}
use borrow.Author.Tests.{lt-ltb, le-ltb}
use lib.Dec.{ltb}
use lib.ListN.{length, get_or, set, length-set}
use lib.Seq.{get_or-set_same, get_or-set_other}
use Rattle.laws.specs.Fold.{pick}
use Rattle.network.specs.Lines.{network, Joins}
use Rattle.plans.specs.Checking.{in_play, of_rank}
use Rattle.seen.specs.Tables.{Seen, seen, Blank, see_from}

-- One of the first `count` lines passes the test, and joins the stations at positions j and h.
pub record Line (n : ℕ) (lines order : List ℕ) (test : ℕ → Bool) (count j h : ℕ) : Type 0 where
  pub place : ℕ
  pub below : place < count
  pub passes : test place ≡ true
  pub joins : Joins (network n lines) place (get_or order j 0) (get_or order h 0)

-- The tables are right for the first `count` lines.
pub record Right (n : ℕ) (lines ranks : List ℕ) (i : ℕ) (order : List ℕ) (count : ℕ) (s : Seen) : Type 0 where
  pub earliest_size : length s.earliest ≡ n
  pub parents_size : length s.parents ≡ n
  pub others_size : length s.others ≡ n
  pub low : (j : ℕ) → j < n → get_or s.earliest j 0 ≤ j
  pub found : (j : ℕ) → j < n → get_or s.earliest j 0 < j → Line n lines order (in_play ranks i) count j (get_or s.earliest j 0)
  pub first : (j : ℕ) → j < n → (h : ℕ) → h < get_or s.earliest j 0 → ¬ Line n lines order (in_play ranks i) count j h
  pub parent_so : (j : ℕ) → j < n → get_or s.parents j false ≡ true → Line n lines order (of_rank ranks i) count j (get_or s.earliest j 0)
  pub parent_is : (j : ℕ) → j < n → Line n lines order (of_rank ranks i) count j (get_or s.earliest j 0) → get_or s.parents j false ≡ true
  pub other_so : (j : ℕ) → j < n → get_or s.others j false ≡ true
      → (h : ℕ) × (h < j) × (h ≢ get_or s.earliest j 0) × Line n lines order (of_rank ranks i) count j h
  pub other_is : (j : ℕ) → j < n → (h : ℕ) → h < j → h ≢ get_or s.earliest j 0 → Line n lines order (of_rank ranks i) count j h
      → get_or s.others j false ≡ true

module _ (n : ℕ) (lines order : List ℕ) (test : ℕ → Bool) where
  no_line : (j h : ℕ) → ¬ Line n lines order test 0 j h
  no_line j h l = omega (arith, l.below)

  line_more : (count j h : ℕ) → Line n lines order test count j h → Line n lines order test (count + 1) j h
  line_more count j h l = record { place = l.place; below = omega (arith, l.below); passes = l.passes; joins = l.joins }

  -- a line among one more is that one, or was among the others
  line_cases : (count j h : ℕ) → Line n lines order test (count + 1) j h
      → ((test count ≡ true) × Joins (network n lines) count (get_or order j 0) (get_or order h 0)) ⊎ Line n lines order test count j h
  line_cases count j h l = go (ℕ_discrete l.place count)
    where
      go : Dec (l.place ≡ count) → ((test count ≡ true) × Joins (network n lines) count (get_or order j 0) (get_or order h 0)) ⊎ Line n lines order test count j h
      go (yes e) = inl (rw (← e) l.passes, rw (← e) l.joins)
      go (no m) = inr (record { place = l.place; below = omega (arith, l.below); passes = l.passes; joins = l.joins })

-- Before any line the tables are right.
pub blank_right : (n : ℕ) (lines ranks : List ℕ) (i : ℕ) (order : List ℕ) (s : Seen) → Blank n s → Right n lines ranks i order 0 s
blank_right n lines ranks i order s B =
    record {
      earliest_size = B.earliest_size;
      parents_size = B.parents_size;
      others_size = B.others_size;
      low = λ j l. omega (arith, B.alone j l);
      found = λ j l e. absurd (omega (arith, B.alone j l));
      first = λ j l h e. no_line n lines order (in_play ranks i) j h;
      parent_so = λ j l e. absurd (true≢false (sym e ∙ B.no_parent j l));
      parent_is = λ j l e. absurd (no_line n lines order (of_rank ranks i) j _ e);
      other_so = λ j l e. absurd (true≢false (sym e ∙ B.no_other j l));
      other_is = λ j l h e m q. absurd (no_line n lines order (of_rank ranks i) j h q);
    }

-- A mark put at an index if a test holds.
module _ (b : Bool) (table : List Bool) (at : ℕ) (room : at < length table) where
  abbrev marked : List Bool
  marked = pick b (set table at true) table

  marked_size : length marked ≡ length table
  marked_size = go b
    where
      go : (b : Bool) → length (pick b (set table at true) table) ≡ length table
      go true = length-set table at true
      go false = refl

  mark_now : (b ≡ true) ⊎ (get_or table at false ≡ true) → get_or marked at false ≡ true
  mark_now e = go b e
    where
      go : (b : Bool) → (b ≡ true) ⊎ (get_or table at false ≡ true) → get_or (pick b (set table at true) table) at false ≡ true
      go true e = get_or-set_same table at true false room
      go false (inl e) = absurd (true≢false (sym e))
      go false (inr e) = e

  mark_was : get_or marked at false ≡ true → (b ≡ true) ⊎ (get_or table at false ≡ true)
  mark_was e = go b e
    where
      go : (b : Bool) → get_or (pick b (set table at true) table) at false ≡ true → (b ≡ true) ⊎ (get_or table at false ≡ true)
      go true e = inl refl
      go false e = inr e

  mark_other : (j : ℕ) → j ≢ at → get_or marked j false ≡ get_or table j false
  mark_other j m = go b
    where
      go : (b : Bool) → get_or (pick b (set table at true) table) j false ≡ get_or table j false
      go true = get_or-set_other table at j true false m
      go false = refl

-- A line that is not in play changes nothing.
module _ (n : ℕ) (lines ranks : List ℕ) (i : ℕ) (order : List ℕ) (p : ℕ) (s : Seen) (R : Right n lines ranks i order p s) where
  pub right_out : in_play ranks i p ≡ false → of_rank ranks i p ≡ false → Right n lines ranks i order (p + 1) s
  right_out out unranked =
      record {
        earliest_size = R.earliest_size;
        parents_size = R.parents_size;
        others_size = R.others_size;
        low = R.low;
        found = λ j l e. line_more n lines order (in_play ranks i) p j _ (R.found j l e);
        first = λ j l h e q. R.first j l h e (back (in_play ranks i) out j h q);
        parent_so = λ j l e. line_more n lines order (of_rank ranks i) p j _ (R.parent_so j l e);
        parent_is = λ j l q. R.parent_is j l (back (of_rank ranks i) unranked j _ q);
        other_so = λ j l e. let (h, b, m, q) = R.other_so j l e in (h, b, m, line_more n lines order (of_rank ranks i) p j h q);
        other_is = λ j l h b m q. R.other_is j l h b m (back (of_rank ranks i) unranked j h q);
      }
    where
      back : (test : ℕ → Bool) → test p ≡ false → (j h : ℕ) → Line n lines order test (p + 1) j h → Line n lines order test p j h
      back test fails j h q = go (line_cases n lines order test p j h q)
        where
          go : ((test p ≡ true) × Joins (network n lines) p (get_or order j 0) (get_or order h 0)) ⊎ Line n lines order test p j h → Line n lines order test p j h
          go (inl (e, x)) = absurd (true≢false (sym e ∙ fails))
          go (inr old) = old

  -- Line p, in play, joins the stations at the positions `earlier` and `later` and no other two; no line before it joins these.
  module _ (later earlier : ℕ) (rises : earlier < later) (within : later < n) (in_play_lem : in_play ranks i p ≡ true)
      (ranked_in_play : (q : ℕ) → of_rank ranks i q ≡ true → in_play ranks i q ≡ true)
      (it : Joins (network n lines) p (get_or order later 0) (get_or order earlier 0))
      (only : (j h : ℕ) → j < n → h ≤ j → Joins (network n lines) p (get_or order j 0) (get_or order h 0) → (j ≡ later) × (h ≡ earlier))
      (fresh : ¬ Line n lines order (in_play ranks i) p later earlier)
      (loopless : (q j : ℕ) → q < p → ¬ Joins (network n lines) q (get_or order j 0) (get_or order j 0)) where
    -- a line at other positions was there before
    back : (test : ℕ → Bool) (j h : ℕ) → j < n → h ≤ j → ¬ ((j ≡ later) × (h ≡ earlier)) → Line n lines order test (p + 1) j h → Line n lines order test p j h
    back test j h l b other q = go (line_cases n lines order test p j h q)
      where
        go : ((test p ≡ true) × Joins (network n lines) p (get_or order j 0) (get_or order h 0)) ⊎ Line n lines order test p j h → Line n lines order test p j h
        go (inl (e, x)) = absurd (other (only j h l b x))
        go (inr old) = old

    -- the new line itself
    new : (test : ℕ → Bool) → test p ≡ true → Line n lines order test (p + 1) later earlier
    new test e = record { place = p; below = omega arith; passes = e; joins = it }

    unranked : ¬ Line n lines order (of_rank ranks i) p later earlier
    unranked q = fresh (record { place = q.place; below = q.below; passes = ranked_in_play q.place q.passes; joins = q.joins })

    -- whether the new line has the round's rank, if a line of that rank is between its positions
    rank_new : Line n lines order (of_rank ranks i) (p + 1) later earlier → of_rank ranks i p ≡ true
    rank_new q = go (line_cases n lines order (of_rank ranks i) p later earlier q)
      where
        go : ((of_rank ranks i p ≡ true) × Joins (network n lines) p (get_or order later 0) (get_or order earlier 0)) ⊎ Line n lines order (of_rank ranks i) p later earlier → of_rank ranks i p ≡ true
        go (inl (e, x)) = e
        go (inr old) = absurd (unranked old)

    abbrev nearest : ℕ
    nearest = get_or s.earliest later 0

    -- whether the line to it has the round's rank, and the table with the new line's earlier end
    abbrev had : Bool
    had = get_or s.parents later false

    abbrev now : List ℕ
    now = set s.earliest later earlier

    others_room : later < length s.others
    others_room = omega (arith, R.others_size)

    -- the new line leads to an earlier station than any before it
    nearer : earlier < nearest → Right n lines ranks i order (p + 1) (seen (set s.earliest later earlier) (set s.parents later (of_rank ranks i p)) (pick (get_or s.parents later false) (set s.others later true) s.others))
    nearer less =
        record {
          earliest_size = length-set s.earliest later earlier ∙ R.earliest_size;
          parents_size = length-set s.parents later (of_rank ranks i p) ∙ R.parents_size;
          others_size = marked_size had s.others later others_room ∙ R.others_size;
          low = λ j l. low j l (ℕ_discrete j later);
          found = λ j l. found j l (ℕ_discrete j later);
          first = λ j l h. first j l h (ℕ_discrete j later);
          parent_so = λ j l. parent_so j l (ℕ_discrete j later);
          parent_is = λ j l. parent_is j l (ℕ_discrete j later);
          other_so = λ j l. other_so j l (ℕ_discrete j later);
          other_is = λ j l h. other_is j l h (ℕ_discrete j later);
        }
      where
        now_here : get_or now later 0 ≡ earlier
        now_here = get_or-set_same s.earliest later earlier 0 (omega (arith, R.earliest_size))

        now_other : (j : ℕ) → j ≢ later → get_or now j 0 ≡ get_or s.earliest j 0
        now_other j m = get_or-set_other s.earliest later j earlier 0 m

        low : (j : ℕ) → j < n → Dec (j ≡ later) → get_or now j 0 ≤ j
        low j l (yes e) = rw (e, now_here) (omega arith)
        low j l (no m) = rw (now_other j m) (R.low j l)

        found : (j : ℕ) → j < n → Dec (j ≡ later) → get_or now j 0 < j → Line n lines order (in_play ranks i) (p + 1) j (get_or now j 0)
        found j l (yes e) b = rw (e, now_here) (new (in_play ranks i) in_play_lem)
        found j l (no m) b = rw (now_other j m) (line_more n lines order (in_play ranks i) p j _ (R.found j l (rw (now_other j m) at b)))

        first : (j : ℕ) → j < n → (h : ℕ) → Dec (j ≡ later) → h < get_or now j 0 → ¬ Line n lines order (in_play ranks i) (p + 1) j h
        first j l h (yes e) b q =
            let under : h < earlier = rw (e, now_here) at b in
            R.first later within h (omega arith) (back (in_play ranks i) later h within (omega arith) (λ x. omega (arith, x.1)) (rw e at q))
        first j l h (no m) b q =
            let under : h < get_or s.earliest j 0 = rw (now_other j m) at b in
            R.first j l h under (back (in_play ranks i) j h l (omega (arith, R.low j l)) (λ x. m x.0) q)

        parent_so : (j : ℕ) → j < n → Dec (j ≡ later) → get_or (set s.parents later (of_rank ranks i p)) j false ≡ true → Line n lines order (of_rank ranks i) (p + 1) j (get_or now j 0)
        parent_so j l (yes e) b = rw (e, now_here) (new (of_rank ranks i) (sym (get_or-set_same s.parents later (of_rank ranks i p) false (omega (arith, R.parents_size))) ∙ (rw e at b)))
        parent_so j l (no m) b =
            rw (now_other j m) (line_more n lines order (of_rank ranks i) p j _ (R.parent_so j l (sym (get_or-set_other s.parents later j (of_rank ranks i p) false m) ∙ b)))

        parent_is : (j : ℕ) → j < n → Dec (j ≡ later) → Line n lines order (of_rank ranks i) (p + 1) j (get_or now j 0) → get_or (set s.parents later (of_rank ranks i p)) j false ≡ true
        parent_is j l (yes e) q = rw e (get_or-set_same s.parents later (of_rank ranks i p) false (omega (arith, R.parents_size)) ∙ rank_new (rw (e, now_here) at q))
        parent_is j l (no m) q =
            get_or-set_other s.parents later j (of_rank ranks i p) false m
            ∙ R.parent_is j l (back (of_rank ranks i) j _ l (R.low j l) (λ x. m x.0) (rw (now_other j m) at q))

        other_so : (j : ℕ) → j < n → Dec (j ≡ later) → get_or (pick had (set s.others later true) s.others) j false ≡ true
            → (h : ℕ) × (h < j) × (h ≢ get_or now j 0) × Line n lines order (of_rank ranks i) (p + 1) j h
        other_so j l (yes e) b = rw (e, now_here) (go (mark_was (get_or s.parents later false) s.others later others_room (rw e at b)))
          where
            go : (get_or s.parents later false ≡ true) ⊎ (get_or s.others later false ≡ true)
                → (h : ℕ) × (h < later) × (h ≢ earlier) × Line n lines order (of_rank ranks i) (p + 1) later h
            go (inl x) =
                let q = R.parent_so later within x in
                let apart : nearest ≢ later = (λ z. loopless q.place later q.below (rw z at q.joins)) in
                (nearest, omega (arith, R.low later within), omega arith, line_more n lines order (of_rank ranks i) p later nearest q)
            go (inr x) =
                let (h, b, m, q) = R.other_so later within x in
                (h, b, λ z. unranked (rw z at q), line_more n lines order (of_rank ranks i) p later h q)
        other_so j l (no m) b =
            let (h, b, x, q) = R.other_so j l (sym (mark_other (get_or s.parents later false) s.others later others_room j m) ∙ b) in
            (h, b, rw (now_other j m) x, line_more n lines order (of_rank ranks i) p j h q)

        other_is : (j : ℕ) → j < n → (h : ℕ) → Dec (j ≡ later) → h < j → h ≢ get_or now j 0 → Line n lines order (of_rank ranks i) (p + 1) j h
            → get_or (pick had (set s.others later true) s.others) j false ≡ true
        other_is j l h (yes e) b x q = rw e (mark_now (get_or s.parents later false) s.others later others_room (go (ℕ_discrete h nearest)))
          where
            x' : h ≢ earlier
            x' = rw (e, now_here) at x

            old : Line n lines order (of_rank ranks i) p later h
            old = back (of_rank ranks i) later h within (omega arith) (λ z. x' z.1) (rw e at q)

            go : Dec (h ≡ nearest) → (get_or s.parents later false ≡ true) ⊎ (get_or s.others later false ≡ true)
            go (yes z) = inl (R.parent_is later within (rw z at old))
            go (no z) = inr (R.other_is later within h (omega arith) z old)
        other_is j l h (no m) b x q =
            mark_other (get_or s.parents later false) s.others later others_room j m
            ∙ R.other_is j l h b (rw (now_other j m) at x) (back (of_rank ranks i) j h l (omega arith) (λ z. m z.0) q)

    -- an earlier station was seen before
    further : nearest ≤ earlier → Right n lines ranks i order (p + 1) (seen s.earliest s.parents (pick (of_rank ranks i p) (set s.others later true) s.others))
    further more =
        record {
          earliest_size = R.earliest_size;
          parents_size = R.parents_size;
          others_size = marked_size (of_rank ranks i p) s.others later others_room ∙ R.others_size;
          low = R.low;
          found = λ j l b. line_more n lines order (in_play ranks i) p j _ (R.found j l b);
          first = λ j l h b q. R.first j l h b (back (in_play ranks i) j h l (omega (arith, R.low j l)) (λ (x : (j ≡ later) × (h ≡ earlier)). omega (arith, ap (λ z. get_or s.earliest z 0) x.0)) q);
          parent_so = λ j l b. line_more n lines order (of_rank ranks i) p j _ (R.parent_so j l b);
          parent_is = λ j l q. R.parent_is j l (back (of_rank ranks i) j _ l (R.low j l) (λ x. not_it (sym (ap (λ z. get_or s.earliest z 0) x.0) ∙ x.1)) q);
          other_so = λ j l. other_so j l (ℕ_discrete j later);
          other_is = λ j l h. other_is j l h (ℕ_discrete j later);
        }
      where
        not_it : nearest ≢ earlier
        not_it e = fresh (rw e at (R.found later within (omega arith)))

        other_so : (j : ℕ) → j < n → Dec (j ≡ later) → get_or (pick (of_rank ranks i p) (set s.others later true) s.others) j false ≡ true
            → (h : ℕ) × (h < j) × (h ≢ get_or s.earliest j 0) × Line n lines order (of_rank ranks i) (p + 1) j h
        other_so j l (yes e) b = rw e (go (mark_was (of_rank ranks i p) s.others later others_room (rw e at b)))
          where
            go : (of_rank ranks i p ≡ true) ⊎ (get_or s.others later false ≡ true)
                → (h : ℕ) × (h < later) × (h ≢ nearest) × Line n lines order (of_rank ranks i) (p + 1) later h
            go (inl x) = (earlier, rises, λ z. not_it (sym z), new (of_rank ranks i) x)
            go (inr x) = let (h, b, m, q) = R.other_so later within x in (h, b, m, line_more n lines order (of_rank ranks i) p later h q)
        other_so j l (no m) b =
            let (h, b, x, q) = R.other_so j l (sym (mark_other (of_rank ranks i p) s.others later others_room j m) ∙ b) in
            (h, b, x, line_more n lines order (of_rank ranks i) p j h q)

        other_is : (j : ℕ) → j < n → (h : ℕ) → Dec (j ≡ later) → h < j → h ≢ get_or s.earliest j 0 → Line n lines order (of_rank ranks i) (p + 1) j h
            → get_or (pick (of_rank ranks i p) (set s.others later true) s.others) j false ≡ true
        other_is j l h (yes e) b x q = rw e (mark_now (of_rank ranks i p) s.others later others_room (go (ℕ_discrete h earlier)))
          where
            go : Dec (h ≡ earlier) → (of_rank ranks i p ≡ true) ⊎ (get_or s.others later false ≡ true)
            go (yes z) = inl (rank_new (rw (e, z) at q))
            go (no z) = inr (R.other_is later within h (omega arith) (rw e at x) (back (of_rank ranks i) later h within (omega arith) (λ y. z y.1) (rw e at q)))
        other_is j l h (no m) b x q =
            mark_other (of_rank ranks i p) s.others later others_room j m ∙ R.other_is j l h b x (back (of_rank ranks i) j h l (omega arith) (λ z. m z.0) q)

    pub right_from : Right n lines ranks i order (p + 1) (see_from later earlier (of_rank ranks i p) s)
    unfolding see_from
    right_from = go (dec_lt earlier nearest)
      where
        go : Dec (earlier < nearest) → Right n lines ranks i order (p + 1) (pick (ltb earlier nearest)
            (seen (set s.earliest later earlier) (set s.parents later (of_rank ranks i p)) (pick (get_or s.parents later false) (set s.others later true) s.others))
            (seen s.earliest s.parents (pick (of_rank ranks i p) (set s.others later true) s.others)))
        go (yes less) = rw (lt-ltb _ _ less) (nearer less)
        go (no more) = rw (le-ltb earlier nearest (omega arith)) (further (omega arith))
