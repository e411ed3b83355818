-- The key lemma: no line of rank 0 leads from one side of a cut to the other, if no kept line does and few stations stand in the cut.
-- By induction over the rounds: each round lets one station of the cut go over to a side, and its own lines are then no longer needed.
-- Assumes nothing.
use Prim.Native.Nat.{ℕ, zero, suc, ◌+◌, ◌≤◌, ◌<◌}
use mathlib.Core.Path.{◌≡◌, refl, ap}
use mathlib.Core.Logic.{◌≢◌, ◌⊎◌, ◌⊎◌.inl, ◌⊎◌.inr}
use mathlib.Core.List.{List}
use native.Mathlib.Decide.{ℕ_discrete, dec_lt}
use native.Mathlib.Omega.{arith}
use lib.ListN.{get_or}
use Rattle.laws.specs.Count.{total}
use Rattle.laws.proofs.Count.{total_le, total_lt}
use Rattle.laws.proofs.Decide.{dec_and, dec_or, some_below}
use Rattle.network.specs.Lines.{Network, Joins, Joins.forth, Joins.back, Simple}
use Rattle.network.specs.Chains.{Hop, Hop.by, Chain, Chain.here, Chain.step, Every}
use Rattle.network.proofs.Chains.{joins_back, joins_in, hop_in, chain_join, chain_hop}
use Rattle.plans.specs.Published.{Arrow, Rooted, Greedy}
use Rattle.plans.specs.Plans.{InPlay, OfRank}
use Rattle.certificate.proofs.Rounds.{LastArrow, last_arrow, play_joined, arrow_first}
use Rattle.certificate.proofs.Colours.{Colour, Colour.gone, Colour.near, Colour.far, weight, gone_near, gone_far, near_far, dec_far, flip, flip_near, flip_far, weight_flip, paint, paint_far, paint_near, paint_same, paint_weight, paint_less}

-- No line of rank i or above leads from near to far.
abbrev pub Uncrossed : (g : Network) (ranks : List ℕ) (i : ℕ) (colour : ℕ → Colour) → Type 0
Uncrossed g ranks i colour = (p u v : ℕ) → p < g.lines → i ≤ get_or ranks p 0 → Joins g p u v → colour u ≡ near → colour v ≡ far → ⊥

-- Line e leads from near to far, and no line of rank i or above does.
pub record Split (g : Network) (ranks : List ℕ) (i e : ℕ) (colour : ℕ → Colour) : Type 0 where
  pub near_end : ℕ
  pub far_end : ℕ
  pub ends : Joins g e near_end far_end
  pub is_near : colour near_end ≡ near
  pub is_far : colour far_end ≡ far
  pub uncrossed : Uncrossed g ranks i colour

-- A station of a's tree that is taken away, from which arrows lead to v.
record Met (g : Network) (F : ℕ → Type 0) (t : ℕ → ℕ) (colour : ℕ → Colour) (a v : ℕ) : Type 0 where
  station : ℕ
  is_station : station < g.stations
  gone_is : colour station ≡ gone
  in_tree : Chain (Hop g F) Every a station
  last : LastArrow g F t station v

-- A station that is taken away, from which no line of a rank above i leads to far.
record Found (g : Network) (ranks : List ℕ) (i : ℕ) (colour : ℕ → Colour) : Type 0 where
  station : ℕ
  is_station : station < g.stations
  gone_is : colour station ≡ gone
  clear : (p v : ℕ) → p < g.lines → i < get_or ranks p 0 → Joins g p station v → colour v ≡ far → ⊥

-- ── one round: a station of the cut is found that later lines do not need ──

module _ (g : Network) (simple : Simple g) (ranks : List ℕ) (i : ℕ) (t : ℕ → ℕ) (G : Greedy g (InPlay ranks i) (OfRank ranks i) t) where
  module _ (a : ℕ) (R : Rooted g (OfRank ranks i) t a) (colour : ℕ → Colour) (uncrossed : Uncrossed g ranks i colour) (root_not_far : colour R.root ≢ far) where
    -- v is in a's tree
    abbrev InTree : ℕ → Type 0
    InTree v = Chain (Hop g (OfRank ranks i)) Every a v

    -- a line of rank i leads from a station that is not far to one that is: the first is taken away
    gone_before : {y v : ℕ} → colour y ≢ far → colour v ≡ far → Hop g (OfRank ranks i) y v → colour y ≡ gone
    gone_before {y} {v} n f (by p l k j) = go (colour y) refl
      where
        go : (x : Colour) → colour y ≡ x → colour y ≡ gone
        go gone e = e
        go near e = absurd (uncrossed p y v l (omega arith) j e f)
        go far e = absurd (n e)

    -- arrows that lead from a station that is not far to one that is meet one that is taken away
    meet : {y v : ℕ} → colour y ≢ far → InTree y → Chain (Arrow g (OfRank ranks i) t) Every y v → colour v ≡ far → Met g (OfRank ranks i) t colour a v
    meet n h (here _) f = absurd (n f)
    meet {y} {v} n h (step {v = x} _ b rest) f = go (dec_far (colour x)) (λ m. meet m (chain_join h (chain_hop tt tt b.line)) rest f)
      where
        go : Dec (colour x ≡ far) → (colour x ≢ far → Met g (OfRank ranks i) t colour a v) → Met g (OfRank ranks i) t colour a v
        go (yes e) ih = record { station = y; is_station = hop_in simple.proper b.line; gone_is = gone_before n e b.line; in_tree = h; last = last_arrow b rest }
        go (no m) ih = ih m

    -- so does a far station of the tree, on the way from the root
    met : (v : ℕ) → v < g.stations → InTree v → colour v ≡ far → Met g (OfRank ranks i) t colour a v
    met v l h f = meet root_not_far R.inside (R.leads v l h) f

    -- where a later line leads from w to far, an earlier station of the tree is taken away
    earlier : (w p v : ℕ) → colour w ≡ gone → InTree w → p < g.lines → i < get_or ranks p 0 → Joins g p w v → colour v ≡ far
        → (z : ℕ) × (z < g.stations) × (colour z ≡ gone) × InTree z × (t z < t w)
    earlier w p v e h l k j f = (m.station, m.is_station, m.gone_is, m.in_tree, less m.last.arrow.line)
      where
        hop : Hop g (InPlay ranks i) w v
        hop = by p l (inr (omega arith)) j

        m : Met g (OfRank ranks i) t colour a v
        m = met v (joins_in simple.proper l (joins_back j)) (chain_join h (play_joined G hop)) f

        less : Hop g (OfRank ranks i) m.last.from v → t m.station < t w
        less (by q l' k' j') = go (ℕ_discrete m.last.from w)
          where
            go : Dec (m.last.from ≡ w) → t m.station < t w
            go (yes o) =
                let same : p ≡ q = simple.once p q w v l l' j (rw o at j') in
                let same_rank : get_or ranks p 0 ≡ get_or ranks q 0 = ap (λ (x : ℕ). get_or ranks x 0) same in
                omega arith
            go (no o) =
                let apart : t m.last.from ≢ t w =
                (λ o'. o (G.numbering.one_to_one m.last.from w (joins_in simple.proper l' j') (joins_in simple.proper l j) o')) in
                omega (arith, arrow_first G m.last.arrow hop, m.last.late)

    -- line p, of a rank above i, leads from w to far
    Leads : ℕ → ℕ → Type 0
    Leads w p = (i < get_or ranks p 0) × (((g.one p ≡ w) × (colour (g.two p) ≡ far)) ⊎ ((g.two p ≡ w) × (colour (g.one p) ≡ far)))

    leads : {w v p : ℕ} → i < get_or ranks p 0 → Joins g p w v → colour v ≡ far → Leads w p
    unfolding Leads
    leads l (forth x y) f = (l, inl (x, rw y f))
    leads l (back x y) f = (l, inr (y, rw x f))

    led : {w p : ℕ} → Leads w p → (v : ℕ) × (i < get_or ranks p 0) × Joins g p w v × (colour v ≡ far)
    unfolding Leads
    led {w} {p} (l, inl (x, f)) = (g.two p, l, forth x refl, f)
    led {w} {p} (l, inr (y, f)) = (g.one p, l, back refl y, f)

    dec_leads : (w p : ℕ) → Dec (Leads w p)
    unfolding Leads
    dec_leads w p =
        dec_and (dec_lt i (get_or ranks p 0))
        (dec_or (dec_and (ℕ_discrete (g.one p) w) (dec_far (colour (g.two p)))) (dec_and (ℕ_discrete (g.two p) w) (dec_far (colour (g.one p)))))

    -- down the order from w, as long as a later line leads to far
    found : (bound w : ℕ) → t w < bound → w < g.stations → colour w ≡ gone → InTree w → Found g ranks i colour
    found zero w below l e h = absurd (omega arith)
    found (suc bound) w below l e h = go (some_below (Leads w) (dec_leads w) g.lines) (λ z. found bound z)
      where
        go : ((p : ℕ) × (p < g.lines) × Leads w p) ⊎ ((p : ℕ) → p < g.lines → ¬ Leads w p)
            → ((z : ℕ) → t z < bound → z < g.stations → colour z ≡ gone → InTree z → Found g ranks i colour) → Found g ranks i colour
        go (inr none) ih = record { station = w; is_station = l; gone_is = e; clear = λ p v l k j f. none p l (leads k j f) }
        go (inl (p, lp, k)) ih =
            let (v, k, j, f) = led k in
            let (z, lz, ez, hz, less) = earlier w p v e h lp k j f in
            ih z (omega arith) lz ez hz

    found_far : (v : ℕ) → v < g.stations → InTree v → colour v ≡ far → Found g ranks i colour
    found_far v l h f = let m = met v l h f in found (suc (t m.station)) m.station (omega arith) m.is_station m.gone_is m.in_tree

-- ── the station goes over to near ──

Next : (g : Network) (ranks : List ℕ) (i e : ℕ) (colour : ℕ → Colour) → Type 0
Next g ranks i e colour =
    (colour' : ℕ → Colour) × Split g ranks (suc i) e colour' × (total g.stations (λ v. weight (colour' v)) < total g.stations (λ v. weight (colour v)))

over : (g : Network) (ranks : List ℕ) (i e : ℕ) (colour : ℕ → Colour) → Split g ranks i e colour → Found g ranks i colour → Next g ranks i e colour
unfolding Next
over g ranks i e colour S F = (
  paint colour F.station,
  record {
    near_end = S.near_end;
    far_end = S.far_end;
    ends = S.ends;
    is_near = paint_same colour F.station S.near_end near S.is_near (λ h. gone_near (cc F.gone_is));
    is_far = paint_same colour F.station S.far_end far S.is_far (λ h. gone_far (cc F.gone_is));
    uncrossed = λ p u v l k j eu ev. cross p u v l k j (paint_near colour F.station u eu) (paint_far colour F.station v ev);
  },
  total_lt g.stations _ _ F.station F.is_station (paint_less colour F.station F.gone_is) (λ v _. paint_weight colour F.station v),
)
  where
    cross : (p u v : ℕ) → p < g.lines → suc i ≤ get_or ranks p 0 → Joins g p u v → (u ≡ F.station) ⊎ (colour u ≡ near) → colour v ≡ far → ⊥
    cross p u v l k j (inl h) f = F.clear p v l k (rw h at j) f
    cross p u v l k j (inr h) f = S.uncrossed p u v l (omega arith) j h f

flipped : (g : Network) (ranks : List ℕ) (i e : ℕ) (colour : ℕ → Colour) → Split g ranks i e colour → Split g ranks i e (λ v. flip (colour v))
flipped g ranks i e colour S =
    record {
      near_end = S.far_end;
      far_end = S.near_end;
      ends = joins_back S.ends;
      is_near = ap flip S.is_far;
      is_far = ap flip S.is_near;
      uncrossed = λ p u v l k j eu ev. S.uncrossed p v u l k (joins_back j) (flip_far (colour v) ev) (flip_near (colour u) eu);
    }

-- A station of the cut goes over; where the root of e's tree is far, the two sides change places first.
next : (g : Network) → Simple g → (ranks : List ℕ) (i : ℕ) (t : ℕ → ℕ) → Greedy g (InPlay ranks i) (OfRank ranks i) t
    → (e : ℕ) → e < g.lines → get_or ranks e 0 ≡ 0 → (colour : ℕ → Colour) → Split g ranks i e colour → Next g ranks i e colour
unfolding Next
next g simple ranks i t G e l none colour S = go (dec_far (colour R.root))
  where
    near_in : S.near_end < g.stations
    near_in = joins_in simple.proper l S.ends

    far_in : S.far_end < g.stations
    far_in = joins_in simple.proper l (joins_back S.ends)

    R : Rooted g (OfRank ranks i) t S.near_end
    R = G.rooted S.near_end near_in

    go : Dec (colour R.root ≡ far) → Next g ranks i e colour
    go (no n) = over g ranks i e colour S (found_far g simple ranks i t G S.near_end R colour S.uncrossed n S.far_end far_in (play_joined G (by e l (inl none) S.ends)) S.is_far)
    go (yes f) =
        let colour' : ℕ → Colour = λ v. flip (colour v) in
        let S' : Split g ranks i e colour' = flipped g ranks i e colour S in
        let (colour'', S'', less) = over g ranks i e colour' S' (found_far g simple ranks i t G S.near_end R colour' S'.uncrossed (λ h. near_far (cc (flip_far (colour R.root) h))) S.near_end near_in (here tt) (ap flip S.is_near)) in
        let same : total g.stations (λ v. weight (flip (colour v))) ≤ total g.stations (λ v. weight (colour v)) = total_le g.stations _ _ (λ v _. omega (arith, weight_flip (colour v))) in
        (colour'', S'', omega arith)

-- No split, if the rounds from i on are as many as the cut's stations, or more.
pub no_split : (g : Network) → Simple g → (ranks : List ℕ) (k : ℕ)
    → ((i : ℕ) → 1 ≤ i → i ≤ k → (t : ℕ → ℕ) × Greedy g (InPlay ranks i) (OfRank ranks i) t)
    → (e : ℕ) → e < g.lines → get_or ranks e 0 ≡ 0
    → (d i : ℕ) → 1 ≤ i → i + d ≡ k → (colour : ℕ → Colour) → total g.stations (λ v. weight (colour v)) ≤ d → Split g ranks i e colour → ⊥
unfolding Next
no_split g simple ranks k rounds e l none zero i first h colour few S =
    let (t, G) = rounds i first (omega arith) in
    let (colour', S', less) = next g simple ranks i t G e l none colour S in
    omega arith
no_split g simple ranks k rounds e l none (suc d) i first h colour few S =
    let (t, G) = rounds i first (omega arith) in
    let (colour', S', less) = next g simple ranks i t G e l none colour S in
    no_split g simple ranks k rounds e l none d (suc i) (omega arith) (omega arith) colour' (omega arith) S'
