-- THEOREM. A round's order has each station once. The idea: the stations scanned so far are counted, and as long as
-- they are fewer than n the next station is one that is not scanned yet. Assumes nothing.
use Prim.Native.Nat.{ℕ, zero, suc, ◌<◌, ◌≤◌}
use mathlib.Core.Path.{◌≡◌, refl, sym, ◌∙◌}
use mathlib.Core.Bool.{Bool, true, false, not, true≢false}
use mathlib.Core.List.{List, [], ◌∷◌, ◌++◌}
use mathlib.Core.Logic.{◌≢◌, ◌⊎◌, ◌⊎◌.inl, ◌⊎◌.inr}
use native.Mathlib.Decide.{ℕ_discrete, dec_lt}
use native.Mathlib.Omega.{arith}
use borrow.Author.Tests.{not-true, not-false}
use lib.ListN.{length, get_or, set, length-set, length-append, length-replicate, get_or-append}
use lib.Seq.{get_or-set_same, get_or-set_other, get_or-append_seam}
use Rattle.laws.specs.Fold.{pick, up_to, any_from, lowest}
use Rattle.laws.specs.Count.{count}
use Rattle.laws.proofs.Fold.{FoundAt, FoundNone, first_cases, first_all, any_some, up_to_keeps}
use Rattle.laws.proofs.Lists.{replicate_at}
use Rattle.laws.proofs.Count.{count_none, count_all, count_full, count_one_more}
use Rattle.network.specs.Orders.{EachOnce}
use Rattle.rule.specs.Rule.{marks, Scanning, scan_station, ready, fresh, next_station, scan_as, scan_next, round_start, all_scanned, one_round}
use Rattle.rule.proofs.Marks.{Grown, stored, scan_grown}

-- Where a round stands after i scans.
pub record Halfway (n i : ℕ) (s : Scanning) : Type 0 where
  pub marks_size : length s.marked ≡ n
  pub scans_size : length s.scanned ≡ n
  pub order_size : length s.order ≡ i
  pub counted : count n (λ v. get_or s.scanned v false) ≡ i
  pub marked_too : (v : ℕ) → get_or s.scanned v false ≡ true → get_or s.marked v false ≡ true
  pub station : (j : ℕ) → j < i → get_or s.order j 0 < n
  pub scanned_too : (j : ℕ) → j < i → get_or s.scanned (get_or s.order j 0) false ≡ true
  pub once : (a b : ℕ) → a < i → b < i → get_or s.order a 0 ≡ get_or s.order b 0 → a ≡ b
  pub found : (v : ℕ) → get_or s.scanned v false ≡ true → (j : ℕ) × (j < i) × (get_or s.order j 0 ≡ v)

begun : (n start : ℕ) (ranks : List ℕ) → Halfway n 0 (round_start n start ranks)
begun n start ranks =
    record {
      marks_size = simp (length-set, length-replicate);
      scans_size = length-replicate n false;
      order_size = refl;
      counted = count_none n _ (λ v h. replicate_at n v false);
      marked_too = λ v e. absurd (true≢false (sym e ∙ replicate_at n v false));
      station = λ j h. absurd (omega arith);
      scanned_too = λ j h. absurd (omega arith);
      once = λ a b h k e. absurd (omega arith);
      found = λ v e. absurd (true≢false (sym e ∙ replicate_at n v false));
    }

-- A station that is ready, or fresh, is not scanned.
ready_not : (marked scanned : List Bool) (v : ℕ) → ready marked scanned v ≡ true → get_or scanned v false ≡ false
unfolding ready
ready_not marked scanned v e = go (get_or marked v false) e
  where
    go : (m : Bool) → pick m (not (get_or scanned v false)) false ≡ true → get_or scanned v false ≡ false
    go true e = not-true (get_or scanned v false) e
    go false e = absurd (true≢false (sym e))

-- A marked station that is not ready is scanned.
not_ready : (marked scanned : List Bool) (v : ℕ) → get_or marked v false ≡ true → ready marked scanned v ≡ false → get_or scanned v false ≡ true
unfolding ready
not_ready marked scanned v m e = not-false (get_or scanned v false) (rw m at e)

module _ (n i : ℕ) (s : Scanning) (H : Halfway n i s) (more : i < n) where
  abbrev New : ℕ → Type 0
  New u = (u < n) × (get_or s.scanned u false ≡ false)

  next_new : New (next_station n s.marked s.scanned)
  unfolding next_station fresh
  next_new = go (any_from (ready s.marked s.scanned) 0 n) refl
    where
      among_ready : (j : ℕ) × (j < n) × (ready s.marked s.scanned j ≡ true)
          → FoundAt (ready s.marked s.scanned) (λ v. v) 0 n (lowest (ready s.marked s.scanned) n 0)
          ⊎ FoundNone (ready s.marked s.scanned) (λ v. v) 0 0 n (lowest (ready s.marked s.scanned) n 0)
          → New (lowest (ready s.marked s.scanned) n 0)
      among_ready j (inl r) = rw r.is (omega (arith, r.below), ready_not s.marked s.scanned r.place r.passes)
      among_ready (j, l, e) (inr r) = absurd (true≢false (sym e ∙ r.none j (omega arith) (omega arith)))

      among_fresh : ((v : ℕ) → v < n → ready s.marked s.scanned v ≡ false)
          → FoundAt (fresh s.marked) (λ v. v) 0 n (lowest (fresh s.marked) n 0) ⊎ FoundNone (fresh s.marked) (λ v. v) 0 0 n (lowest (fresh s.marked) n 0)
          → New (lowest (fresh s.marked) n 0)
      among_fresh none (inl r) = rw r.is (omega (arith, r.below), unscanned (get_or s.scanned r.place false) refl)
        where
          unscanned : (b : Bool) → get_or s.scanned r.place false ≡ b → get_or s.scanned r.place false ≡ false
          unscanned true e = absurd (true≢false (sym (H.marked_too r.place e) ∙ not-true (get_or s.marked r.place false) r.passes))
          unscanned false e = e
      among_fresh none (inr r) =
          let all : ((v : ℕ) → v < n → get_or s.scanned v false ≡ true) =
          λ v h. not_ready s.marked s.scanned v (not-false (get_or s.marked v false) (r.none v (omega arith) (omega arith))) (none v h) in
          absurd (omega (arith, H.counted, count_all n (λ v. get_or s.scanned v false) all))

      go : (b : Bool) → any_from (ready s.marked s.scanned) 0 n ≡ b → New (pick b (lowest (ready s.marked s.scanned) n 0) (lowest (fresh s.marked) n 0))
      go true e = among_ready (any_some (ready s.marked s.scanned) n e) (first_cases (ready s.marked s.scanned) (λ v. v) 0 0 n)
      go false e =
          among_fresh (first_all (λ b. b) (ready s.marked s.scanned) false n e) (first_cases (fresh s.marked) (λ v. v) 0 0 n)

  -- the entries of the order with one station more
  module _ (u : ℕ) where
    earlier : (j : ℕ) → j < i → get_or (s.order ++ (u ∷ [])) j 0 ≡ get_or s.order j 0
    earlier j h = get_or-append s.order (u ∷ []) 0 j (omega (arith, H.order_size))

    latest : (j : ℕ) → j < suc i → ¬ (j < i) → get_or (s.order ++ (u ∷ [])) j 0 ≡ u
    latest j h n = let e : j ≡ length s.order = omega (arith, H.order_size) in rw e (get_or-append_seam s.order u [] 0)

  module _ (lines : List ℕ) (round u : ℕ) (new : New u) where
    grown : Grown round (marks s.ranks (set s.marked u true)) (scan_station lines round u (marks s.ranks (set s.marked u true)))
    grown = scan_grown lines round u round (marks s.ranks (set s.marked u true)) (omega arith)

    -- whether v is scanned: u is now, and every other station as before
    now_scanned : get_or (set s.scanned u true) u false ≡ true
    now_scanned = get_or-set_same s.scanned u true false (omega (arith, new.0, H.scans_size))

    still_scanned : (v : ℕ) → get_or s.scanned v false ≡ true → get_or (set s.scanned u true) v false ≡ true
    still_scanned v e = stored (λ (x : Bool). x ≡ true) s.scanned u v true false refl e

    was_scanned : (v : ℕ) → v ≢ u → get_or (set s.scanned u true) v false ≡ true → get_or s.scanned v false ≡ true
    was_scanned v n e = sym (get_or-set_other s.scanned u v true false n) ∙ e

    -- u is not in the order yet
    not_yet : (j : ℕ) → j < i → get_or s.order j 0 ≢ u
    not_yet j h e = true≢false (sym (rw e at (H.scanned_too j h)) ∙ new.1)

    scanned_once : (a b : ℕ) → a < suc i → b < suc i → get_or (s.order ++ (u ∷ [])) a 0 ≡ get_or (s.order ++ (u ∷ [])) b 0 → a ≡ b
    scanned_once a b h k e = go (dec_lt a i) (dec_lt b i)
      where
        go : Dec (a < i) → Dec (b < i) → a ≡ b
        go (yes x) (yes y) = H.once a b x y (sym (earlier u a x) ∙ (e ∙ earlier u b y))
        go (yes x) (no y) = absurd (not_yet a x (sym (earlier u a x) ∙ (e ∙ latest u b k y)))
        go (no x) (yes y) = absurd (not_yet b y (sym (earlier u b y) ∙ (sym e ∙ latest u a h x)))
        go (no x) (no y) = omega arith

    one_more : Halfway n (suc i) (scan_as lines round u s)
    unfolding scan_as
    one_more =
        record {
          marks_size = grown.size ∙ (length-set s.marked u true ∙ H.marks_size);
          scans_size = length-set s.scanned u true ∙ H.scans_size;
          order_size = simp length-append (omega (arith, H.order_size));
          counted = omega (arith, H.counted, count_one_more n (λ v. get_or s.scanned v false) (λ v. get_or (set s.scanned u true) v false) u new.0 new.1 now_scanned (λ v m. get_or-set_other s.scanned u v true false m));
          marked_too = λ v e. marked v e (ℕ_discrete v u);
          station = λ j h. in_range j h (dec_lt j i);
          scanned_too = λ j h. scanned j h (dec_lt j i);
          once = scanned_once;
          found = λ v e. found v e (ℕ_discrete v u);
        }
      where
        marked : (v : ℕ) → get_or (set s.scanned u true) v false ≡ true → Dec (v ≡ u)
            → get_or (scan_station lines round u (marks s.ranks (set s.marked u true))).marked v false ≡ true
        marked v e (yes f) = rw f (grown.kept u (get_or-set_same s.marked u true false (omega (arith, new.0, H.marks_size))))
        marked v e (no m) = grown.kept v (stored (λ (x : Bool). x ≡ true) s.marked u v true false refl (H.marked_too v (was_scanned v m e)))

        in_range : (j : ℕ) → j < suc i → Dec (j < i) → get_or (s.order ++ (u ∷ [])) j 0 < n
        in_range j h (yes x) = rw (earlier u j x) (H.station j x)
        in_range j h (no x) = rw (latest u j h x) new.0

        scanned : (j : ℕ) → j < suc i → Dec (j < i) → get_or (set s.scanned u true) (get_or (s.order ++ (u ∷ [])) j 0) false ≡ true
        scanned j h (yes x) = rw (earlier u j x) (still_scanned (get_or s.order j 0) (H.scanned_too j x))
        scanned j h (no x) = rw (latest u j h x) now_scanned

        found : (v : ℕ) → get_or (set s.scanned u true) v false ≡ true → Dec (v ≡ u) → (j : ℕ) × (j < suc i) × (get_or (s.order ++ (u ∷ [])) j 0 ≡ v)
        found v e (yes f) = (i, omega arith, latest u i (omega arith) (λ (x : i < i). omega arith) ∙ sym f)
        found v e (no m) = let (j, l, is) = H.found v (was_scanned v m e) in (j, omega arith, earlier u j l ∙ is)

module _ (n : ℕ) (lines : List ℕ) (round start : ℕ) (ranks : List ℕ) where
  pub halfway : (i : ℕ) → i ≤ n → Halfway n i (up_to (λ x. scan_next n lines round) (round_start n start ranks) i)
  unfolding up_to scan_next
  halfway zero h = begun n start ranks
  halfway (suc i) h =
      let H = halfway i (omega arith) in
      let s = up_to (λ x. scan_next n lines round) (round_start n start ranks) i in
      one_more n i s H (omega arith) lines round (next_station n s.marked s.scanned) (next_new n i s H (omega arith))

  -- THEOREM. The order of a round has each station once.
  pub round_each_once : EachOnce n (one_round n lines round start ranks).order
  unfolding one_round all_scanned
  round_each_once =
      let H = halfway n (omega arith) in
      record {
        size = H.order_size;
        station = H.station;
        once = H.once;
        every = λ v h. H.found v (count_full n (λ w. get_or (up_to (λ x. scan_next n lines round) (round_start n start ranks) n).scanned w false) H.counted v h);
      }

-- THEOREM. A round gives no rank above its own, if none was above.
pub round_ranked : (n : ℕ) (lines : List ℕ) (round start : ℕ) (ranks : List ℕ) → ((p : ℕ) → get_or ranks p 0 ≤ round) → (p : ℕ) → get_or (one_round n lines round start ranks).ranks p 0 ≤ round
unfolding one_round all_scanned scan_next scan_as
round_ranked n lines round start ranks h =
    up_to_keeps (λ (s : Scanning). (p : ℕ) → get_or s.ranks p 0 ≤ round) (λ x. scan_next n lines round) (round_start n start ranks) h
    (λ x s below. (scan_grown lines round (next_station n s.marked s.scanned) round (marks s.ranks (set s.marked (next_station n s.marked s.scanned) true)) (omega arith)).ranked below) n

-- THEOREM. A round has a rank for each line, if there was one.
pub round_size : (n : ℕ) (lines : List ℕ) (round start : ℕ) (ranks : List ℕ) → length (one_round n lines round start ranks).ranks ≡ length ranks
unfolding one_round all_scanned scan_next scan_as
round_size n lines round start ranks =
    up_to_keeps (λ (s : Scanning). length s.ranks ≡ length ranks) (λ x. scan_next n lines round) (round_start n start ranks) refl
    (λ x s e. (scan_grown lines round (next_station n s.marked s.scanned) round (marks s.ranks (set s.marked (next_station n s.marked s.scanned) true)) (omega arith)).lines ∙ e) n
