-- How a visit goes on by a neighbour that is not seen: the neighbour is visited, as a child, and what it came to is the visit's too.
-- Assumes nothing.
use Prim.Native.Nat.{ℕ, ◌+◌, ◌<◌, ◌≤◌, min}
use mathlib.Core.Path.{◌≡◌, refl, sym, subst, ◌∙◌}
use mathlib.Core.Logic.{◌≢◌, ◌⊎◌, ◌⊎◌.inl, ◌⊎◌.inr}
use mathlib.Core.Bool.{Bool, true, false, ◌||◌, ◌&&◌, true≢false}
use mathlib.Core.List.{List}
use native.Mathlib.Decide.{ℕ_discrete, dec_lt}
use native.Mathlib.Omega.{arith}
use borrow.Author.Tests.{leb-true, leb-false}
use lib.ListN.{get_or}
use lib.Dec.{leb}
use Rattle.network.specs.Chains.{Chain, Chain.here, Chain.step}
use Rattle.network.proofs.Chains.{hop_back, chain_start, chain_join, chain_hop, chain_stays}
use Rattle.pieces.specs.Joined.{Remains, Joined, Parted}
use Rattle.neighbours.specs.Near.{Line, Near}
use Rattle.cuts.specs.Cuts.{and_away}
use Rattle.cuts.specs.Passes.{Seen, New, Right, Start, Met, Ended, Mid}
use Rattle.cuts.proofs.Seen.{besides, besides_stays, besides_other, turn, before_or_new, still_seen, fresh_before, by_hub, gone_deep, shallow, own_new}

module _ (n : ℕ) (lines : List ℕ) (away : ℕ → Bool) (begins near : List ℕ) (s : List ℕ) (u d : ℕ) (S : Start n lines away s u d)
    (N : Near n lines begins near) (t : List ℕ) (cut₀ cut : List Bool) (i low : ℕ) (other says : Bool)
    (from : get_or begins u 0 ≤ i) (to : i < get_or begins (u + 1) 0)
    (M : Mid n lines away begins near s t cut₀ cut u d i low other says) where
  kept : (v : ℕ) → get_or s v 0 ≢ 0 → get_or t v 0 ≡ get_or s v 0
  kept = M.grown.kept

  own_is_new : New n away s t u
  own_is_new = own_new S M.grown.here

  own_seen : Seen n away t u
  own_seen = own_is_new.seen

  -- a station other than u that has a neighbour not seen is above u
  higher : (y z : ℕ) → Seen n away t y → y ≢ u → Remains n away z → get_or t z 0 ≡ 0 → Line n lines y z → get_or t y 0 < d
  higher y z sy m rz e h = go (before_or_new s t y sy)
    where
      go : Seen n away s y ⊎ New n away s t y → get_or t y 0 < d
      go (inl old) = omega (arith, kept y old.deep, S.above y z old rz (fresh_before s t kept z e) h)
      go (inr new) = absurd ((M.grown.closed y z m new rz h).deep e)

  -- all that is seen is joined to u by what is seen
  to_own : (y : ℕ) → Seen n away t y → Chain (Line n lines) (Seen n away t) y u
  to_own y sy = go (before_or_new s t y sy)
    where
      old_to_own : Seen n away s y → Dec (1 < d) → Chain (Line n lines) (Seen n away t) y u
      old_to_own old (yes l) =
          let (x, sx, h) = S.other l in
          chain_join (chain_stays (still_seen s t kept) (S.linked y x old sx)) (chain_hop (still_seen s t kept x sx) own_seen h)
      old_to_own old (no m) = absurd (S.alone (omega (arith, S.some)) y old)

      go : Seen n away s y ⊎ New n away s t y → Chain (Line n lines) (Seen n away t) y u
      go (inl old) = old_to_own old (dec_lt 1 d)
      go (inr new) = chain_stays (λ v w. w.seen) (M.grown.joined y new)

  line : Line n lines u (get_or near i 0)
  line = N.each u i S.station from to

  module _ (w_in : get_or near i 0 < n) (fresh : get_or t (get_or near i 0) 0 ≡ 0) where
    w_remains : Remains n away (get_or near i 0)
    w_remains = shallow t S kept (get_or near i 0) w_in (omega arith)

    pub child_starts : d < 1024 → Start n lines away t (get_or near i 0) (d + 1)
    child_starts room =
        record {
          gone = gone_deep t S kept;
          station = w_in;
          fresh = fresh;
          some = omega arith;
          most = omega arith;
          above = λ y z sy rz e h. above y z sy rz e h (ℕ_discrete y u);
          linked = λ y z sy sz. chain_join (to_own y sy) (turn n lines (to_own z sz));
          alone = λ e. absurd (omega (arith, S.some));
          other = λ l. (u, own_seen, line);
        }
      where
        above : (y z : ℕ) → Seen n away t y → Remains n away z → get_or t z 0 ≡ 0 → Line n lines y z → Dec (y ≡ u) → get_or t y 0 < d + 1
        above y z sy rz e h (yes q) = let k : get_or t y 0 ≡ d = rw q M.grown.here in omega arith
        above y z sy rz e h (no m) = omega (arith, higher y z sy m rz e h)

    module _ (t' : List ℕ) (cut' : List Bool) (below : ℕ) (E : Ended n lines away t t' cut cut' (get_or near i 0) (d + 1) below) where
      kept' : (v : ℕ) → get_or t v 0 ≢ 0 → get_or t' v 0 ≡ get_or t v 0
      kept' = E.kept

      kept_both : (v : ℕ) → get_or s v 0 ≢ 0 → get_or t' v 0 ≡ get_or s v 0
      kept_both v m = kept' v (λ (e : get_or t v 0 ≡ 0). m (fresh_before s t kept v e)) ∙ kept v m

      seen_later : (x : ℕ) → Seen n away t x → Seen n away t' x
      seen_later = still_seen t t' kept'

      new_later : (x : ℕ) → New n away s t x → New n away s t' x
      new_later x v = record { seen = seen_later x v.seen; fresh = v.fresh }

      new_since : (x : ℕ) → New n away t t' x → New n away s t' x
      new_since x v = record { seen = v.seen; fresh = fresh_before s t kept x v.fresh }

      -- what is new was new before the child was visited, or is new since
      new_when : (x : ℕ) → New n away s t' x → New n away s t x ⊎ New n away t t' x
      new_when x v = go (before_or_new t t' x v.seen)
        where
          go : Seen n away t x ⊎ New n away t t' x → New n away s t x ⊎ New n away t t' x
          go (inl old) = inl (record { seen = old; fresh = v.fresh })
          go (inr new) = inr new

      -- a station seen before the child was visited is none of the child's
      apart : (x z : ℕ) → Seen n away t z → New n away t t' x → x ≢ z
      apart x z sz v e = sz.deep (subst (λ (y : ℕ). get_or t y 0 ≡ 0) e v.fresh)

      w_seen : Seen n away t' (get_or near i 0)
      w_seen = record { remains = w_remains; deep = λ (e : get_or t' (get_or near i 0) 0 ≡ 0). omega (arith, E.here) }

      w_new : New n away t t' (get_or near i 0)
      w_new = record { seen = w_seen; fresh = fresh }

      -- each of the child's is joined to the child without a station seen before
      to_child : (z : ℕ) → Seen n away t z → (x : ℕ) → New n away t t' x → Joined n lines (and_away away z) x (get_or near i 0)
      to_child z sz x v = chain_stays (λ y q. besides n away z y q.seen.remains (apart y z sz q)) (E.joined x v)

      -- what was right of a station stays right
      right_later : (z : ℕ) (b b' : Bool) → b' ≡ b → z ≢ u → Seen n away t z → Right n lines away t b z → Right n lines away t' b' z
      right_later z b b' same m sz r =
          record {
            parted = λ e. r.parted (sym same ∙ e);
            joined = λ e. by_hub n lines away t' z u (λ x sx mx. go e x mx (before_or_new t t' x sx));
          }
        where
          m' : u ≢ z
          m' e = m (sym e)

          go : b' ≡ false → (x : ℕ) → x ≢ z → Seen n away t x ⊎ New n away t t' x → Joined n lines (and_away away z) x u
          go e x mx (inl old) = r.joined (sym same ∙ e) x u old own_seen mx m'
          go e x mx (inr new) =
              chain_join (to_child z sz x new)
              (chain_hop (besides n away z (get_or near i 0) w_remains (apart (get_or near i 0) z sz w_new)) (besides n away z u own_seen.remains m') (hop_back line))

      -- no chain without u leads out of what the child's visit came to, if that is next to nothing above u
      shut : d ≤ below → (a b : ℕ) → Joined n lines (and_away away u) a b → New n away t t' a → New n away t t' b
      shut low_enough a b (here r) v = v
      shut low_enough a b (step {v = y} r h c) v = shut low_enough y b c (go (before_or_new t t' y sy))
        where
          ry : Remains n (and_away away u) y
          ry = chain_start c

          sy : Seen n away t' y
          sy = E.closed a y tt v (besides_stays n away u y ry) h

          go : Seen n away t y ⊎ New n away t t' y → New n away t t' y
          go (inl old) = absurd (omega (arith, E.least a y tt v old h, higher y a old (besides_other n away u y ry) v.seen.remains v.fresh (hop_back h)))
          go (inr new) = new

      mine : (q : Bool) → q ≡ (says || (other && leb d below)) → Right n lines away t' q u
      mine q eq =
          record {
            parted = λ e. parts says refl other refl (leb d below) refl (sym eq ∙ e);
            joined = λ e. whole says refl other refl (leb d below) refl (sym eq ∙ e);
          }
        where
          parts : (x : Bool) → says ≡ x → (y : Bool) → other ≡ y → (z : Bool) → leb d below ≡ z → (x || (y && z)) ≡ true → Parted n lines (and_away away u)
          parts true ex y ey z ez e = M.mine.parted ex
          parts false ex false ey z ez e = absurd (true≢false (sym e))
          parts false ex true ey false ez e = absurd (true≢false (sym e))
          parts false ex true ey true ez e =
              let (o, so, mo) = M.others ey in
              record {
                one = get_or near i 0;
                two = o;
                one_remains = besides n away u (get_or near i 0) w_remains (apart (get_or near i 0) u own_seen w_new);
                two_remains = besides n away u o so.remains mo;
                apart = λ c. so.deep (shut (leb-true d below ez) (get_or near i 0) o c w_new).fresh;
              }

          Pairs : Type 0
          Pairs = (x y : ℕ) → Seen n away t' x → Seen n away t' y → x ≢ u → y ≢ u → Joined n lines (and_away away u) x y

          -- the child's are next to one above u
          through : says ≡ false → below < d → Pairs
          through ex l = by_hub n lines away t' u far (λ x sx mx. go x mx (before_or_new t t' x sx))
            where
              met : Met n lines away t t' below
              met = E.met (omega arith)

              far : ℕ
              far = met.to

              to_other : far ≢ u
              to_other e = let k : get_or t far 0 ≡ d = rw e M.grown.here in omega (arith, met.high)

              go : (x : ℕ) → x ≢ u → Seen n away t x ⊎ New n away t t' x → Joined n lines (and_away away u) x far
              go x mx (inl old) = M.mine.joined ex x far old met.seen mx to_other
              go x mx (inr new) =
                  chain_join (to_child u own_seen x new)
                  (chain_join (turn n lines (to_child u own_seen met.from met.new))
                  (chain_hop (besides n away u met.from met.new.seen.remains (apart met.from u own_seen met.new)) (besides n away u far met.seen.remains to_other) met.line))

          -- there are no others than the child's
          only : other ≡ false → Pairs
          only ey = by_hub n lines away t' u (get_or near i 0) (λ x sx mx. go x mx (before_or_new t t' x sx))
            where
              go : (x : ℕ) → x ≢ u → Seen n away t x ⊎ New n away t t' x → Joined n lines (and_away away u) x (get_or near i 0)
              go x mx (inl old) = absurd (mx (M.no_others ey x old))
              go x mx (inr new) = to_child u own_seen x new

          whole : (x : Bool) → says ≡ x → (y : Bool) → other ≡ y → (z : Bool) → leb d below ≡ z → (x || (y && z)) ≡ false → Pairs
          whole true ex y ey z ez e = absurd (true≢false e)
          whole false ex false ey z ez e = only ey
          whole false ex true ey true ez e = absurd (true≢false e)
          whole false ex true ey false ez e = through ex (leb-false d below ez)

      pub visited : Mid n lines away begins near s t' cut₀ cut' u d (i + 1) (min low below) true (says || (other && leb d below))
      visited =
          record {
            grown =
                record {
                  kept = kept_both;
                  cut_kept = λ v m. E.cut_kept v (λ (e : get_or t v 0 ≡ 0). m (fresh_before s t kept v e)) ∙ M.grown.cut_kept v m;
                  here = kept' u own_seen.deep ∙ M.grown.here;
                  deep = λ z v. deep z (new_when z v);
                  joined = λ z v. joined z (new_when z v);
                  met = λ l. met (dec_lt below low) l;
                  closed = λ z y m v ry h. closed z y m ry h (new_when z v);
                  least = λ z y m v sy h. least z y m sy h (new_when z v);
                  right = λ z m v. right z m (new_when z v);
                };
            own = omega (arith, M.own);
            looked = λ j l k r. looked j l r (ℕ_discrete j i) k;
            lowest = λ j l k sj. lowest j l sj (ℕ_discrete j i) k;
            mine = mine (says || (other && leb d below)) refl;
            others = λ e. (get_or near i 0, w_seen, apart (get_or near i 0) u own_seen w_new);
            no_others = λ e. absurd (true≢false e);
          }
        where
          deep : (z : ℕ) → New n away s t z ⊎ New n away t t' z → d ≤ get_or t' z 0
          deep z (inl v) = omega (arith, M.grown.deep z v, kept' z v.seen.deep)
          deep z (inr v) = omega (arith, E.deep z v)

          joined : (z : ℕ) → New n away s t z ⊎ New n away t t' z → Chain (Line n lines) (New n away s t') z u
          joined z (inl v) = chain_stays new_later (M.grown.joined z v)
          joined z (inr v) = chain_join (chain_stays new_since (E.joined z v)) (chain_hop (new_since (get_or near i 0) w_new) (new_later u own_is_new) (hop_back line))

          met : Dec (below < low) → min low below < d → Met n lines away s t' (min low below)
          met (no m) l =
              let q = M.grown.met (omega arith) in
              record { from = q.from; to = q.to; new = new_later q.from q.new; seen = q.seen; line = q.line; high = omega (arith, q.high) }
          met (yes k) l =
              let q = E.met (omega arith) in
              let old : get_or s q.to 0 ≢ 0 = λ (e : get_or s q.to 0 ≡ 0). omega (arith, M.grown.deep q.to (record { seen = q.seen; fresh = e }), q.high) in
              record { from = q.from; to = q.to; new = new_since q.from q.new; seen = record { remains = q.seen.remains; deep = old }; line = q.line; high = omega (arith, kept q.to old, q.high) }

          closed : (z y : ℕ) → z ≢ u → Remains n away y → Line n lines z y → New n away s t z ⊎ New n away t t' z → Seen n away t' y
          closed z y m ry h (inl v) = seen_later y (M.grown.closed z y m v ry h)
          closed z y m ry h (inr v) = E.closed z y tt v ry h

          least : (z y : ℕ) → z ≢ u → Seen n away s y → Line n lines z y → New n away s t z ⊎ New n away t t' z → min low below ≤ get_or s y 0
          least z y m sy h (inl v) = omega (arith, M.grown.least z y m v sy h)
          least z y m sy h (inr v) = omega (arith, E.least z y tt v (still_seen s t kept y sy) h, kept y sy.deep)

          right : (z : ℕ) → z ≢ u → New n away s t z ⊎ New n away t t' z → Right n lines away t' (get_or cut' z false) z
          right z m (inl v) = right_later z (get_or cut z false) (get_or cut' z false) (E.cut_kept z v.seen.deep) m v.seen (M.grown.right z m v)
          right z m (inr v) = E.right z tt v

          looked : (j : ℕ) → get_or begins u 0 ≤ j → Remains n away (get_or near j 0) → Dec (j ≡ i) → j < i + 1 → Seen n away t' (get_or near j 0)
          looked j l r (yes e) k = rw e w_seen
          looked j l r (no m) k = seen_later (get_or near j 0) (M.looked j l (omega arith) r)

          lowest : (j : ℕ) → get_or begins u 0 ≤ j → Seen n away s (get_or near j 0) → Dec (j ≡ i) → j < i + 1 → min low below ≤ get_or s (get_or near j 0) 0
          lowest j l sj (yes e) k = absurd (sj.deep (fresh_before s t kept (get_or near j 0) (rw e fresh)))
          lowest j l sj (no m) k = omega (arith, M.lowest j l (omega arith) sj)
