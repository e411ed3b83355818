-- How a visit begins, passes a neighbour that is seen, and ends; Children.antt has how it visits one that is not seen.
-- Assumes nothing.
use Prim.Native.Nat.{ℕ, ◌+◌, ◌<◌, ◌≤◌, min}
use mathlib.Core.Path.{◌≡◌, refl, sym, subst, ◌∙◌}
use mathlib.Core.Logic.{◌≢◌, ◌⊎◌, ◌⊎◌.inl, ◌⊎◌.inr}
use mathlib.Core.Bool.{Bool, false, true≢false}
use mathlib.Core.List.{List}
use native.Mathlib.Decide.{ℕ_discrete, dec_lt}
use native.Mathlib.Omega.{arith}
use borrow.Author.Tests.{ltb-true, ltb-false}
use lib.ListN.{length, get_or, set}
use lib.Dec.{ltb}
use lib.Seq.{get_or-set_same, get_or-set_other}
use Rattle.network.specs.Chains.{Chain.here}
use Rattle.network.proofs.Chains.{chain_stays}
use Rattle.pieces.specs.Joined.{Remains, Joined}
use Rattle.neighbours.specs.Near.{Line, Near}
use Rattle.cuts.specs.Cuts.{and_away}
use Rattle.cuts.specs.Passes.{Seen, New, Right, Start, Met, Ended, Mid}
use Rattle.cuts.proofs.Seen.{besides, still_seen, shallow, own_new}

module _ (n : ℕ) (lines : List ℕ) (away : ℕ → Bool) (begins near : List ℕ) (s : List ℕ) (u d : ℕ) (S : Start n lines away s u d) where
  -- ── a visit of u at depth d begins ──
  module _ (cut : List Bool) (room : u < length s) where
    old_or_own : (v : ℕ) → Seen n away (set s u d) v → (v ≡ u) ⊎ Seen n away s v
    old_or_own v sv = go (ℕ_discrete v u)
      where
        go : Dec (v ≡ u) → (v ≡ u) ⊎ Seen n away s v
        go (yes e) = inl e
        go (no m) = inr (record { remains = sv.remains; deep = λ (e : get_or s v 0 ≡ 0). sv.deep (get_or-set_other s u v d 0 m ∙ e) })

    new_own : (v : ℕ) → New n away s (set s u d) v → v ≡ u
    new_own v w = go (old_or_own v w.seen)
      where
        go : (v ≡ u) ⊎ Seen n away s v → v ≡ u
        go (inl e) = e
        go (inr sv) = absurd (sv.deep w.fresh)

    own_deep : get_or (set s u d) u 0 ≡ d
    own_deep = get_or-set_same s u d 0 room

    not_own : (v : ℕ) → get_or s v 0 ≢ 0 → v ≢ u
    not_own v m e = m (subst (λ (x : ℕ). get_or s x 0 ≡ 0) (sym e) S.fresh)

    pub begun : Mid n lines away begins near s (set s u d) cut cut u d (get_or begins u 0) d (ltb 1 d) false
    begun =
        record {
          grown =
              record {
                kept = λ v m. get_or-set_other s u v d 0 (not_own v m);
                cut_kept = λ v m. refl;
                here = own_deep;
                deep = λ z w. let e : get_or (set s u d) z 0 ≡ d = rw (new_own z w) own_deep in omega arith;
                joined = λ z w. rw (new_own z w) (here (own_new S own_deep));
                met = λ l. absurd (omega arith);
                closed = λ z y m w r h. absurd (m (new_own z w));
                least = λ z y m w sy h. absurd (m (new_own z w));
                right = λ z m w. absurd (m (new_own z w));
              };
          own = omega arith;
          looked = λ j l k r. absurd (omega arith);
          lowest = λ j l k r. absurd (omega arith);
          mine = record { parted = λ e. absurd (true≢false (sym e)); joined = λ e x y sx sy mx my. mine x y (old_or_own x sx) (old_or_own y sy) mx my };
          others = λ e. others (ltb-true 1 d e);
          no_others = λ e y sy. none (ltb-false 1 d e) y (old_or_own y sy);
        }
      where
        mine : (x y : ℕ) → (x ≡ u) ⊎ Seen n away s x → (y ≡ u) ⊎ Seen n away s y → x ≢ u → y ≢ u → Joined n lines (and_away away u) x y
        mine x y (inl e) q mx my = absurd (mx e)
        mine x y (inr sx) (inl e) mx my = absurd (my e)
        mine x y (inr sx) (inr sy) mx my = chain_stays (λ v sv. besides n away u v sv.remains (not_own v sv.deep)) (S.linked x y sx sy)

        others : 1 < d → (y : ℕ) × Seen n away (set s u d) y × (y ≢ u)
        others l =
            let (x, sx, h) = S.other l in
            (x, still_seen s (set s u d) (λ v m. get_or-set_other s u v d 0 (not_own v m)) x sx, not_own x sx.deep)

        none : d ≤ 1 → (y : ℕ) → (y ≡ u) ⊎ Seen n away s y → y ≡ u
        none l y (inl q) = q
        none l y (inr sy) = absurd (S.alone (omega (arith, S.some)) y sy)

  -- ── it passes a neighbour that is seen ──
  module _ (N : Near n lines begins near) (t : List ℕ) (cut₀ cut : List Bool) (i low : ℕ) (other says : Bool)
      (from : get_or begins u 0 ≤ i) (to : i < get_or begins (u + 1) 0)
      (M : Mid n lines away begins near s t cut₀ cut u d i low other says) where
    kept : (v : ℕ) → get_or s v 0 ≢ 0 → get_or t v 0 ≡ get_or s v 0
    kept = M.grown.kept

    line : Line n lines u (get_or near i 0)
    line = N.each u i S.station from to

    module _ (w_in : get_or near i 0 < n) (seen : get_or t (get_or near i 0) 0 ≢ 0) where
      pub passed : Mid n lines away begins near s t cut₀ cut u d (i + 1) (min low (get_or t (get_or near i 0) 0)) other says
      passed =
          record {
            grown =
                record {
                  kept = M.grown.kept;
                  cut_kept = M.grown.cut_kept;
                  here = M.grown.here;
                  deep = M.grown.deep;
                  joined = M.grown.joined;
                  met = λ l. met (dec_lt (get_or t (get_or near i 0) 0) low) l;
                  closed = M.grown.closed;
                  least = λ z y m v sy h. omega (arith, M.grown.least z y m v sy h);
                  right = M.grown.right;
                };
            own = omega (arith, M.own);
            looked = λ j l k r. looked j l r (ℕ_discrete j i) k;
            lowest = λ j l k sj. lowest j l sj (ℕ_discrete j i) k;
            mine = M.mine;
            others = M.others;
            no_others = M.no_others;
          }
        where
          met : Dec (get_or t (get_or near i 0) 0 < low) → min low (get_or t (get_or near i 0) 0) < d → Met n lines away s t (min low (get_or t (get_or near i 0) 0))
          met (no m) l =
              let q = M.grown.met (omega arith) in
              record { from = q.from; to = q.to; new = q.new; seen = q.seen; line = q.line; high = omega (arith, q.high) }
          met (yes k) l =
              let r = shallow t S kept (get_or near i 0) w_in (omega (arith, M.own, S.most)) in
              let old : get_or s (get_or near i 0) 0 ≢ 0 = λ (e : get_or s (get_or near i 0) 0 ≡ 0). omega (arith, M.grown.deep (get_or near i 0) (record { seen = record { remains = r; deep = seen }; fresh = e }), M.own) in
              record { from = u; to = get_or near i 0; new = own_new S M.grown.here; seen = record { remains = r; deep = old }; line = line; high = omega (arith, kept (get_or near i 0) old) }

          looked : (j : ℕ) → get_or begins u 0 ≤ j → Remains n away (get_or near j 0) → Dec (j ≡ i) → j < i + 1 → Seen n away t (get_or near j 0)
          looked j l r (yes e) k = record { remains = r; deep = subst (λ (x : ℕ). get_or t (get_or near x 0) 0 ≢ 0) (sym e) seen }
          looked j l r (no m) k = M.looked j l (omega arith) r

          lowest : (j : ℕ) → get_or begins u 0 ≤ j → Seen n away s (get_or near j 0) → Dec (j ≡ i) → j < i + 1 → min low (get_or t (get_or near i 0) 0) ≤ get_or s (get_or near j 0) 0
          lowest j l sj (yes e) k =
              let same : get_or t (get_or near i 0) 0 ≡ get_or s (get_or near j 0) 0 = subst (λ (x : ℕ). get_or t (get_or near x 0) 0 ≡ get_or s (get_or near j 0) 0) e (kept (get_or near j 0) sj.deep) in
              omega arith
          lowest j l sj (no m) k = omega (arith, M.lowest j l (omega arith) sj)

  -- ── it ends ──
  module _ (N : Near n lines begins near) (t : List ℕ) (cut₀ cut : List Bool) (i low : ℕ) (other says : Bool)
      (end : get_or begins (u + 1) 0 ≤ i) (room : u < length cut)
      (M : Mid n lines away begins near s t cut₀ cut u d i low other says) where
    pub ended : Ended n lines away s t cut₀ (set cut u says) u d low
    ended =
        record {
          kept = M.grown.kept;
          cut_kept = λ v m. get_or-set_other cut u v says false (λ (e : v ≡ u). m (subst (λ (x : ℕ). get_or s x 0 ≡ 0) (sym e) S.fresh)) ∙ M.grown.cut_kept v m;
          here = M.grown.here;
          deep = M.grown.deep;
          joined = M.grown.joined;
          met = M.grown.met;
          closed = λ z y x v ry h. closed z y v ry h (ℕ_discrete z u);
          least = λ z y x v sy h. least z y v sy h (ℕ_discrete z u);
          right = λ z x v. right z v (ℕ_discrete z u);
        }
      where
        closed : (z y : ℕ) → New n away s t z → Remains n away y → Line n lines z y → Dec (z ≡ u) → Seen n away t y
        closed z y v ry h (no m) = M.grown.closed z y m v ry h
        closed z y v ry h (yes e) =
            let (j, a, b, f) = N.every u y (subst (λ (x : ℕ). Line n lines x y) e h) in
            subst (λ (x : ℕ). Seen n away t x) f (M.looked j a (omega arith) (subst (λ (x : ℕ). Remains n away x) (sym f) ry))

        least : (z y : ℕ) → New n away s t z → Seen n away s y → Line n lines z y → Dec (z ≡ u) → low ≤ get_or s y 0
        least z y v sy h (no m) = M.grown.least z y m v sy h
        least z y v sy h (yes e) =
            let (j, a, b, f) = N.every u y (subst (λ (x : ℕ). Line n lines x y) e h) in
            subst (λ (x : ℕ). low ≤ get_or s x 0) f (M.lowest j a (omega arith) (subst (λ (x : ℕ). Seen n away s x) (sym f) sy))

        right : (z : ℕ) → New n away s t z → Dec (z ≡ u) → Right n lines away t (get_or (set cut u says) z false) z
        right z v (no m) = rw (get_or-set_other cut u z says false m) (M.grown.right z m v)
        right z v (yes e) = rw (e, get_or-set_same cut u says false room) M.mine
