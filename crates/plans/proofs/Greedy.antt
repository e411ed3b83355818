-- A round meets the published definition just where its order has each station once, its stations are good and each line in play has its ends
-- joined by rank-i lines. The idea: a station's parent is the earliest of its earlier neighbours in play. Assumes nothing.
use Prim.Native.Nat.{ℕ, ◌/◌, ◌<◌, ◌≤◌}
use mathlib.Core.Path.{◌≡◌, refl}
use mathlib.Core.List.{List}
use mathlib.Core.Logic.{◌≢◌, ◌⊎◌, ◌⊎◌.inl, ◌⊎◌.inr}
use native.Mathlib.Decide.{dec_lt}
use native.Mathlib.Omega.{arith}
use lib.ListN.{length, get_or}
use Rattle.laws.proofs.Decide.{some_below}
use Rattle.network.specs.Lines.{end_one, end_two, network, Joins, Joins.forth, Joins.back, Simple}
use Rattle.network.specs.Chains.{Hop, Hop.by, Chain, Every}
use Rattle.network.specs.Orders.{EachOnce}
use Rattle.network.proofs.Chains.{hop_back, hop_in, hop_apart, hop_map, chain_back, chain_keeps}
use Rattle.plans.specs.Orders.{position_of}
use Rattle.plans.specs.Published.{Arrow, Rooted, Parent, Parent.above, Parent.itself, Greedy}
use Rattle.plans.specs.Plans.{InPlay, OfRank, RoundMeets}
use Rattle.plans.specs.Faults.{Beside, Tied, Earliest, StationGood, EndsJoined}
use Rattle.plans.proofs.Hops.{tied_or_not, first_beside, Searched, searched, earliest_one}
use Rattle.plans.proofs.Orders.{position_order, position_below, order_position, position_one}
use Rattle.plans.proofs.Trees.{tree, ranked_tied, arrows, root_joined, joined_tree}

-- Round i without a fault.
pub record RoundGood (n : ℕ) (lines ranks : List ℕ) (i : ℕ) (order : List ℕ) : Type 0 where
  pub each_once : EachOnce n order
  pub stations : (j : ℕ) → j < n → StationGood n lines ranks i order j
  pub ends : (p : ℕ) → p < length lines / 2 → InPlay ranks i p → EndsJoined n lines ranks i p

-- A line of rank i is in play in round i.
rank_in_play : (ranks : List ℕ) (i p : ℕ) → OfRank ranks i p → InPlay ranks i p
rank_in_play ranks i p e = inr (omega arith)

module _ (n : ℕ) (lines ranks : List ℕ) (i : ℕ) (order : List ℕ) where
  -- the position of a station, and hops of the two kinds; u → v
  abbrev t : ℕ → ℕ
  t = position_of n order

  abbrev Playing : ℕ → ℕ → Type 0
  Playing = Hop (network n lines) (InPlay ranks i)

  abbrev Ranked : ℕ → ℕ → Type 0
  Ranked = Hop (network n lines) (OfRank ranks i)

  abbrev Up : ℕ → ℕ → Type 0
  Up = Arrow (network n lines) (OfRank ranks i) t

  pub ranked_playing : {u v : ℕ} → Ranked u v → Playing u v
  ranked_playing r = hop_map (λ p _. rank_in_play ranks i p) r

  module _ (S : Simple (network n lines)) (O : EachOnce n order) where
    playing_beside : (u v : ℕ) → Playing u v → Beside n lines ranks i order (t u) (t v)
    playing_beside u v r = rw (order_position n order O u (hop_in S.proper r), order_position n order O v (hop_in S.proper (hop_back r))) r

    -- ── from the definition to good stations ──

    module _ (G : Greedy (network n lines) (InPlay ranks i) (OfRank ranks i) (position_of n order)) where
      -- the station at position j has a parent: an earlier one that a rank-i line leads to; or itself, where there is none
      parent_of : (j : ℕ) → j < n
          → ((h : ℕ) × (h < j) × Tied n lines ranks i order j h) ⊎ Parent (network n lines) (OfRank ranks i) t (get_or order j 0) (get_or order j 0)
      parent_of j l = go (some_below (λ h. Tied n lines ranks i order j h) (tied_or_not n lines ranks i order j) j)
        where
          go : ((h : ℕ) × (h < j) × Tied n lines ranks i order j h) ⊎ ((h : ℕ) → h < j → ¬ Tied n lines ranks i order j h)
              → ((h : ℕ) × (h < j) × Tied n lines ranks i order j h) ⊎ Parent (network n lines) (OfRank ranks i) t (get_or order j 0) (get_or order j 0)
          go (inl r) = inl r
          go (inr none) = inr (itself (λ u a. none (t u) (omega (arith, a.rises, position_order n order O j l)) (tied u a)))
            where
              tied : (u : ℕ) → Up u (get_or order j 0) → Tied n lines ranks i order j (t u)
              tied u a = rw (order_position n order O u (hop_in S.proper a.line)) (hop_back a.line)

      tied_above : (j h : ℕ) → j < n → h < j → Tied n lines ranks i order j h → Parent (network n lines) (OfRank ranks i) t (get_or order j 0) (get_or order h 0)
      tied_above j h l k r =
          above (record { line = hop_back r; rises = omega (arith, position_order n order O j l, position_order n order O h (omega arith)) })

      -- no neighbour in play stands before the parent
      least : (j h x : ℕ) → j < n → h < j → Tied n lines ranks i order j h → x < n → Beside n lines ranks i order j x → h ≤ x
      least j h x l k r m b =
          omega (arith, position_order n order O h (omega arith), position_order n order O x m, G.parent (get_or order x 0) (get_or order j 0) (get_or order h 0) (hop_back b) (tied_above j h l k r))

      pub greedy_station : (j : ℕ) → j < n → StationGood n lines ranks i order j
      greedy_station j l = record { parent = λ h found. kept h found (parent_of j l); no_other = λ h k r. only h k r }
        where
          kept : (h : ℕ) → Earliest n lines ranks i order j h
              → ((h : ℕ) × (h < j) × Tied n lines ranks i order j h) ⊎ Parent (network n lines) (OfRank ranks i) t (get_or order j 0) (get_or order j 0)
              → Tied n lines ranks i order j h
          kept h found (inl (x, k, r)) = go (dec_lt x h) (least j x h l k r (omega (arith, found.earlier)) found.beside)
            where
              go : Dec (x < h) → x ≤ h → Tied n lines ranks i order j h
              go (yes m) low = absurd (found.first x m (ranked_playing r))
              go (no m) low = let e : x ≡ h = omega arith in rw e at r
          kept h found (inr p) =
              absurd (omega (arith, found.earlier, G.parent (get_or order h 0) (get_or order j 0) (get_or order j 0) (hop_back found.beside) p, position_order n order O j l, position_order n order O h (omega (arith, found.earlier))))

          only : (h : ℕ) → h < j → Tied n lines ranks i order j h → Earliest n lines ranks i order j h
          only h k r = record { earlier = k; beside = ranked_playing r; first = λ x m b. omega (arith, least j h x l k r (omega arith) b) }

    -- ── from good stations to the definition ──

    module _ (good : (j : ℕ) → j < n → StationGood n lines ranks i order j) where
      -- a rank-i line to an earlier station leads to the earliest neighbour in play
      ranked_earliest : (v u : ℕ) → Ranked v u → t u < t v → Earliest n lines ranks i order (t v) (t u)
      ranked_earliest v u r l =
          (good (t v) (position_below n order O v (hop_in S.proper r))).no_other (t u) l (ranked_tied n lines ranks i order S.proper O good v u r)

      -- so there is at most one
      one_parent : (v u w : ℕ) → Ranked v u → t u < t v → Ranked v w → t w < t v → u ≡ w
      one_parent v u w r l q k =
          position_one n order O u w (hop_in S.proper (hop_back r)) (hop_in S.proper (hop_back q))
          (earliest_one n lines ranks i order (ranked_earliest v u r l) (ranked_earliest v w q k))

      -- one of two ends is the earlier
      apart : {uses : ℕ → Type 0} (u v : ℕ) → Hop (network n lines) uses u v → (t u < t v) ⊎ (t v < t u)
      apart u v r = go (dec_lt (t u) (t v)) (dec_lt (t v) (t u))
        where
          go : Dec (t u < t v) → Dec (t v < t u) → (t u < t v) ⊎ (t v < t u)
          go (yes l) d = inl l
          go (no m) (yes l) = inr l
          go (no m) (no o) = absurd (hop_apart S.proper r (position_one n order O u v (hop_in S.proper r) (hop_in S.proper (hop_back r)) (omega arith)))

      -- the stations below v: v, and those whose parent is below v
      data Below (v : ℕ) : ℕ → Type 0 where
        top : Below v v
        down : {x y : ℕ} → Below v x → Up x y → Below v y

      below_later : {v x : ℕ} → Below v x → t v ≤ t x
      below_later top = omega arith
      below_later (down b a) = omega (arith, below_later b, a.rises)

      below_last : {v x : ℕ} → Below v x → (x ≡ v) ⊎ ((z : ℕ) × Below v z × Up z x)
      below_last top = inl refl
      below_last (down {x = z} b a) = inr (z, b, a)

      -- rank-i lines other than the one at p, from v to its parent, do not lead out of what is below v
      below_kept : (p v u : ℕ) → p < length lines / 2 → OfRank ranks i p → Joins (network n lines) p v u → t u < t v
          → (x y : ℕ) → Hop (network n lines) (λ q. OfRank ranks i q × (q ≢ p)) x y → Below v x → Below v y
      below_kept p v u l k j less x y r b = go (apart x y r) (below_last b)
        where
          ranked : Ranked x y
          ranked = hop_map (λ q _ (h : OfRank ranks i q × (q ≢ p)). h.0) r

          not_up : Hop (network n lines) (λ q. OfRank ranks i q × (q ≢ p)) v y → t y < t v → ⊥
          not_up (by q m h d) e =
              let same : y ≡ u = one_parent v y u (by q m h.0 d) e (by p l k j) less in
              h.1 (S.once q p v u m l (rw same at d) j)

          go : (t x < t y) ⊎ (t y < t x) → (x ≡ v) ⊎ ((z : ℕ) × Below v z × Up z x) → Below v y
          go (inl e) c = down b (record { line = ranked; rises = e })
          go (inr e) (inl is) = absurd (not_up (rw is at r) (rw is at e))
          go (inr e) (inr (z, c, a)) = rw (one_parent x y z ranked e (hop_back a.line) a.rises) c

      -- so they do not join its ends
      no_circle : (p v u : ℕ) → p < length lines / 2 → OfRank ranks i p → Joins (network n lines) p v u → t u < t v
          → ¬ Chain (Hop (network n lines) (λ q. OfRank ranks i q × (q ≢ p))) Every v u
      no_circle p v u l k j less c = omega (arith, below_later (chain_keeps (Below v) (below_kept p v u l k j less) c top))

      forest : (p : ℕ) → p < length lines / 2 → OfRank ranks i p → ¬ Chain (Hop (network n lines) (λ q. OfRank ranks i q × (q ≢ p))) Every (end_one lines p) (end_two lines p)
      forest p l k c = go (apart (end_one lines p) (end_two lines p) joined)
        where
          joined : Ranked (end_one lines p) (end_two lines p)
          joined = by p l k (forth refl refl)

          go : (t (end_one lines p) < t (end_two lines p)) ⊎ (t (end_two lines p) < t (end_one lines p)) → ⊥
          go (inl e) = no_circle p (end_two lines p) (end_one lines p) l k (back refl refl) e (chain_back (λ x y. hop_back) c)
          go (inr e) = no_circle p (end_one lines p) (end_two lines p) l k (forth refl refl) e c

      rooted : (v : ℕ) → v < n → Rooted (network n lines) (OfRank ranks i) t v
      rooted v h =
          record {
            root = get_or order (tree n lines ranks i order (t v)) 0;
            inside = root_joined n lines ranks i order S.proper O good v h;
            leads = λ w k c. rw (joined_tree n lines ranks i order S.proper O good c) (arrows n lines ranks i order S.proper O good w k);
          }

      -- clause 2: no neighbour in play stands before the parent
      parent_first : (w v u : ℕ) → Playing w v → Parent (network n lines) (OfRank ranks i) t v u → t u ≤ t w
      parent_first w v u b (above a) = go (dec_lt (t w) (t u))
        where
          go : Dec (t w < t u) → t u ≤ t w
          go (yes l) = absurd ((ranked_earliest v u (hop_back a.line) a.rises).first (t w) l (playing_beside v w (hop_back b)))
          go (no m) = omega arith
      parent_first w v u b (itself none) = go (dec_lt (t w) (t v)) (searched n lines ranks i order (t v))
        where
          inside : v < n
          inside = hop_in S.proper (hop_back b)

          e : ℕ
          e = first_beside n lines ranks i order (t v)

          go : Dec (t w < t v) → Searched n lines ranks i order (t v) → t v ≤ t w
          go (no m) c = omega arith
          go (yes l) (inr (same, N)) = absurd (N (t w) l (playing_beside v w (hop_back b)))
          go (yes l) (inl (less, found)) =
              let below = position_below n order O v inside in
              let tied : Ranked v (get_or order e 0) = rw (order_position n order O v inside) at ((good (t v) below).parent e found) in
              absurd (none (get_or order e 0) (record { line = hop_back tied; rises = omega (arith, position_order n order O e (omega arith)) }))

      pub good_greedy : ((p : ℕ) → p < length lines / 2 → InPlay ranks i p → EndsJoined n lines ranks i p) → Greedy (network n lines) (InPlay ranks i) (OfRank ranks i) t
      good_greedy ends =
          record {
            maximal = record { within = λ p l k. rank_in_play ranks i p k; forest = forest; maximal = ends };
            numbering = record { number = position_below n order O; one_to_one = position_one n order O };
            rooted = rooted;
            parent = parent_first;
          }

  -- THEOREM. A round meets the definition just where it is without a fault.
  pub good_meets : Simple (network n lines) → RoundGood n lines ranks i order → RoundMeets n lines ranks i order
  good_meets S G = record { each_once = G.each_once; greedy = good_greedy S G.each_once G.stations G.ends }

  pub meets_good : Simple (network n lines) → RoundMeets n lines ranks i order → RoundGood n lines ranks i order
  meets_good S M = record { each_once = M.each_once; stations = greedy_station S M.each_once M.greedy; ends = M.greedy.maximal.maximal }
