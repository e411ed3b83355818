-- The stages of a round, told by positions in the order that it ends with: after t scans the stations before position t are
-- scanned, and the station at position t is next. Assumes nothing.
use Prim.Native.Nat.{ℕ, zero, suc, ◌+◌, ◌-◌, ◌<◌, ◌≤◌}
use mathlib.Core.Path.{◌≡◌, refl, sym, ap, ◌∙◌}
use mathlib.Core.Bool.{Bool, true, false, not, true≢false}
use mathlib.Core.List.{List, [], ◌∷◌, ◌++◌}
use mathlib.Core.Logic.{◌⊎◌, ◌⊎◌.inl, ◌⊎◌.inr}
use native.Mathlib.Nat.{add-zero, add-suc}
use native.Mathlib.Omega.{arith}
use lib.ListN.{length, get_or, get_or-append}
use lib.Seq.{get_or-append_seam}
use Rattle.laws.specs.Fold.{pick, up_to, lowest}
use Rattle.laws.proofs.Fold.{FoundAt, FoundNone, first_cases, some_any}
use Rattle.rule.specs.Rule.{Scanning, ready, next_station, scan_as, scan_next, round_start, all_scanned, one_round}
use Rattle.rule.proofs.Order.{Halfway, halfway}
use Rattle.laws.proofs.Truth.{not_so}

-- Station v stands before position t of the order.
pub record Earlier (order : List ℕ) (t v : ℕ) : Type 0 where
  pub position : ℕ
  pub below : position < t
  pub is : get_or order position 0 ≡ v

-- Where some station is marked and unscanned, the next station is a marked one.
next_marked : (n : ℕ) (marked scanned : List Bool) (v : ℕ) → v < n → get_or marked v false ≡ true → get_or scanned v false ≡ false
    → get_or marked (next_station n marked scanned) false ≡ true
unfolding next_station ready
next_marked n marked scanned v h m u = rw (some_any (ready marked scanned) n v h is_ready_there) (go (first_cases (ready marked scanned) (λ w. w) 0 0 n))
  where
    is_ready_there : ready marked scanned v ≡ true
    is_ready_there = rw (m, u)

    ready_marked : (w : ℕ) → ready marked scanned w ≡ true → get_or marked w false ≡ true
    ready_marked w e = look (get_or marked w false) e
      where
        look : (b : Bool) → pick b (not (get_or scanned w false)) false ≡ true → b ≡ true
        look true e = refl
        look false e = e

    go : FoundAt (ready marked scanned) (λ w. w) 0 n (lowest (ready marked scanned) n 0)
        ⊎ FoundNone (ready marked scanned) (λ w. w) 0 0 n (lowest (ready marked scanned) n 0)
        → get_or marked (lowest (ready marked scanned) n 0) false ≡ true
    go (inl r) = rw r.is (ready_marked r.place r.passes)
    go (inr r) = absurd (true≢false (sym is_ready_there ∙ r.none v (omega arith) (omega arith)))

-- What is known of the state after t scans.
pub record Stage (n t : ℕ) (order : List ℕ) (s : Scanning) : Type 0 where
  pub marks_size : length s.marked ≡ n
  pub marked_too : (v : ℕ) → Earlier order t v → get_or s.marked v false ≡ true
  pub next : t < n → (v : ℕ) → v < n → get_or s.marked v false ≡ true → ¬ Earlier order t v → get_or s.marked (get_or order t 0) false ≡ true

module _ (n : ℕ) (lines : List ℕ) (round start : ℕ) (ranks : List ℕ) where
  -- The state after t scans.
  pub after : ℕ → Scanning
  after t = up_to (λ x. scan_next n lines round) (round_start n start ranks) t

  pub after_none : after 0 ≡ round_start n start ranks
  unfolding after up_to
  after_none = refl

  pub after_all : one_round n lines round start ranks ≡ after n
  unfolding after one_round all_scanned
  after_all = refl

  half : (t : ℕ) → t ≤ n → Halfway n t (after t)
  unfolding after
  half = halfway n lines round start ranks

  longer : (t : ℕ) → (after (suc t)).order ≡ (after t).order ++ (next_station n (after t).marked (after t).scanned ∷ [])
  unfolding after up_to scan_next scan_as
  longer t = refl

  order_kept : (t d j : ℕ) → t + d ≤ n → j < t → get_or (after (t + d)).order j 0 ≡ get_or (after t).order j 0
  order_kept t zero j h l = rw (add-zero t)
  order_kept t (suc d) j h l =
      rw (add-suc t d, longer (t + d))
      (get_or-append (after (t + d)).order (_ ∷ []) 0 j (omega (arith, (half (t + d) (omega arith)).order_size)) ∙ order_kept t d j (omega arith) l)

  so_far : (t j : ℕ) → t ≤ n → j < t → get_or (after t).order j 0 ≡ get_or (one_round n lines round start ranks).order j 0
  so_far t j h l =
      let e : t + (n - t) ≡ n = omega arith in
      rw after_all (sym (rw e at (order_kept t (n - t) j (omega arith) l)))

  next_at : (t : ℕ) → t < n → next_station n (after t).marked (after t).scanned ≡ get_or (one_round n lines round start ranks).order t 0
  next_at t h =
      let seam = get_or-append_seam (after t).order (next_station n (after t).marked (after t).scanned) [] 0 in
      sym (rw ((half t (omega arith)).order_size, ← (longer t)) at seam) ∙ so_far (suc t) t h (omega arith)

  pub after_more : (t : ℕ) → t < n → after (suc t) ≡ scan_as lines round (get_or (one_round n lines round start ranks).order t 0) (after t)
  unfolding after up_to scan_next
  after_more t h = ap (λ (u : ℕ). scan_as lines round u (after t)) (next_at t h)

  pub after_stage : (t : ℕ) → t ≤ n → Stage n t (one_round n lines round start ranks).order (after t)
  after_stage t h =
      record {
        marks_size = H.marks_size;
        marked_too = λ v k. H.marked_too v (rw (so_far t k.position h k.below ∙ k.is) at (H.scanned_too k.position k.below));
        next = λ l v m e none.
            let unscanned : get_or (after t).scanned v false ≡ false = not_so (get_or (after t).scanned v false) (λ f. none (earlier (H.found v f))) in
            rw (next_at t l) at (next_marked n (after t).marked (after t).scanned v m e unscanned);
      }
    where
      H : Halfway n t (after t)
      H = half t h

      earlier : {v : ℕ} → ((j : ℕ) × (j < t) × (get_or (after t).order j 0 ≡ v)) → Earlier (one_round n lines round start ranks).order t v
      earlier (j, l, e) = record { position = j; below = l; is = sym (so_far t j h l) ∙ e }
