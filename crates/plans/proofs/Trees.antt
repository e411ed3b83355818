-- The trees of a round whose stations are all good: a station is in the tree of the earliest of its earlier neighbours in play, arrows lead to it
-- from its tree's root, and two stations are joined by rank-i lines just where they are in one tree. Assumes nothing.
use Prim.Native.Nat.{ℕ, zero, suc, ◌<◌, ◌≤◌}
use mathlib.Core.Path.{◌≡◌, refl, sym, ◌∙◌}
use mathlib.Core.List.{List, [], ◌∷◌, ◌++◌}
use mathlib.Core.Logic.{◌⊎◌.inl, ◌⊎◌.inr}
use native.Mathlib.Decide.{dec_lt}
use native.Mathlib.Omega.{arith}
use borrow.Author.Tests.{lt-ltb, le-ltb}
use lib.Dec.{ltb}
use lib.ListN.{length, get_or, length-append, get_or-append}
use lib.Seq.{get_or-append_seam}
use Rattle.laws.specs.Fold.{pick, up_to}
use Rattle.network.specs.Lines.{network, Proper}
use Rattle.network.specs.Chains.{Hop, Chain, Chain.here, Every}
use Rattle.network.specs.Orders.{EachOnce}
use Rattle.network.proofs.Chains.{hop_back, hop_in, chain_join, chain_hop, chain_back, chain_map, chain_keeps}
use Rattle.plans.specs.Orders.{position_of}
use Rattle.plans.specs.Checking.{add_tree, trees_of}
use Rattle.plans.specs.Published.{Arrow}
use Rattle.plans.specs.Plans.{OfRank}
use Rattle.plans.specs.Faults.{Beside, Tied, Earliest, StationGood}
use Rattle.plans.proofs.Hops.{first_beside, Searched, searched, earliest_one}
use Rattle.plans.proofs.Orders.{position_order, position_below, order_position}

-- The last entry, after j others.
last_at : (front : List ℕ) (v j : ℕ) → length front ≡ j → get_or (front ++ (v ∷ [])) j 0 ≡ v
last_at front v j e = rw (← e) (get_or-append_seam front v [] 0)

module _ (n : ℕ) (lines ranks : List ℕ) (i : ℕ) (order : List ℕ) where
  -- the trees of the first positions, the position taken for the earliest neighbour, and a station's position
  abbrev trees : ℕ → List ℕ
  trees = trees_of lines ranks i order

  abbrev e : ℕ → ℕ
  e = first_beside n lines ranks i order

  abbrev t : ℕ → ℕ
  t = position_of n order

  -- ── the trees of the first positions ──

  trees_size : (count : ℕ) → length (trees count) ≡ count
  unfolding trees_of up_to add_tree
  trees_size zero = refl
  trees_size (suc count) = simp length-append (omega (arith, trees_size count))

  -- one tree more leaves the others as they were
  pub tree_kept : (count j : ℕ) → j < count → get_or (trees (suc count)) j 0 ≡ get_or (trees count) j 0
  unfolding trees_of up_to add_tree
  tree_kept count j h = get_or-append (trees count) _ 0 j (omega (arith, trees_size count))

  pub tree_new : (j : ℕ) → get_or (trees (suc j)) j 0 ≡ pick (ltb (e j) j) (get_or (trees j) (e j) 0) j
  unfolding trees_of up_to add_tree
  tree_new j = last_at (trees j) _ j (trees_size j)

  -- a station without an earlier neighbour in play is a root
  trees_root : (count j : ℕ) → j < count → ((h : ℕ) → h < j → ¬ Beside n lines ranks i order j h) → get_or (trees count) j 0 ≡ j
  trees_root zero j l none = absurd (omega arith)
  trees_root (suc count) j l none = go (dec_lt j count) (searched n lines ranks i order j) (λ m. trees_root count j m none)
    where
      go : Dec (j < count)
          → Searched n lines ranks i order j
          → (j < count → get_or (trees count) j 0 ≡ j) → get_or (trees (suc count)) j 0 ≡ j
      go (yes m) c ih = tree_kept count j m ∙ ih m
      go (no m) (inl (less, found)) ih = absurd (none (e j) less found.beside)
      go (no m) (inr (same, N)) ih = let c : count ≡ j = omega arith in rw c (tree_new j ∙ rw (le-ltb (e j) j (omega arith)))

  -- another is in the tree of the earliest of them
  trees_child : (count j h : ℕ) → j < count → Earliest n lines ranks i order j h → get_or (trees count) j 0 ≡ get_or (trees count) h 0
  trees_child zero j h l found = absurd (omega arith)
  trees_child (suc count) j h l found = go (dec_lt j count) (searched n lines ranks i order j) (λ m. trees_child count j h m found)
    where
      go : Dec (j < count)
          → Searched n lines ranks i order j
          → (j < count → get_or (trees count) j 0 ≡ get_or (trees count) h 0)
          → get_or (trees (suc count)) j 0 ≡ get_or (trees (suc count)) h 0
      go (yes m) c ih = tree_kept count j m ∙ (ih m ∙ sym (tree_kept count h (omega (arith, found.earlier))))
      go (no m) (inl (less, own)) ih =
          let c : count ≡ j = omega arith in
          let one : e j ≡ h = earliest_one n lines ranks i order own found in
          rw c (tree_new j ∙ (rw (lt-ltb (e j) j less, one) (sym (tree_kept j h found.earlier))))
      go (no m) (inr (same, N)) ih = absurd (N h found.earlier found.beside)

  -- ── the trees of all positions ──

  -- the position of the root of the tree of the station at position j
  abbrev pub tree : ℕ → ℕ
  tree j = get_or (trees n) j 0

  module _ (P : Proper (network n lines)) (O : EachOnce n order) (good : (j : ℕ) → j < n → StationGood n lines ranks i order j) where
    abbrev Ranked : ℕ → ℕ → Type 0
    Ranked = Hop (network n lines) (OfRank ranks i)

    abbrev Up : ℕ → ℕ → Type 0
    Up = Arrow (network n lines) (OfRank ranks i) (t)

    -- a rank-i line between two stations is one between their positions
    pub ranked_tied : (u v : ℕ) → Ranked u v → Tied n lines ranks i order (t u) (t v)
    ranked_tied u v r = rw (order_position n order O u (hop_in P r), order_position n order O v (hop_in P (hop_back r))) r

    -- arrows lead from the root to the station at position j
    arrows_below : (most j : ℕ) → j < most → j < n → (tree j ≤ j) × Chain Up Every (get_or order (tree j) 0) (get_or order j 0)
    arrows_below zero j l h = absurd (omega arith)
    arrows_below (suc most) j l h = go (searched n lines ranks i order j) (λ x. arrows_below most x)
      where
        go : Searched n lines ranks i order j
            → ((x : ℕ) → x < most → x < n → (tree x ≤ x) × Chain Up Every (get_or order (tree x) 0) (get_or order x 0))
            → (tree j ≤ j) × Chain Up Every (get_or order (tree j) 0) (get_or order j 0)
        go (inl (less, found)) ih =
            let (low, c) = ih (e j) (omega arith) (omega arith) in
            let up : Up (get_or order (e j) 0) (get_or order j 0) = record {
              line = hop_back ((good j h).parent (e j) found);
              rises = omega (arith, position_order n order O (e j) (omega arith), position_order n order O j h);
            } in
            rw (trees_child n j (e j) h found) (omega arith, chain_join c (chain_hop tt tt up))
        go (inr (same, N)) ih = rw (trees_root n j h N) (omega arith, here tt)

    pub arrows : (v : ℕ) → v < n → Chain Up Every (get_or order (tree (t v)) 0) v
    arrows v h =
        let c = (arrows_below (suc (t v)) (t v) (omega arith) (position_below n order O v h)).1 in
        rw (order_position n order O v h) at c

    -- the same by rank-i lines, either way
    pub root_joined : (v : ℕ) → v < n → Chain Ranked Every v (get_or order (tree (t v)) 0)
    root_joined v h = chain_back (λ x y. hop_back) (chain_map (λ x y (a : Up x y). a.line) (arrows v h))

    -- the ends of a rank-i line are in one tree
    ranked_tree : (u v : ℕ) → Ranked u v → tree (t u) ≡ tree (t v)
    ranked_tree u v r = go (dec_lt (t u) (t v)) (dec_lt (t v) (t u))
      where
        below : (x y : ℕ) → Ranked x y → t y < t x → tree (t x) ≡ tree (t y)
        below x y r l =
            let h = position_below n order O x (hop_in P r) in
            trees_child n (t x) (t y) h ((good (t x) h).no_other (t y) l (ranked_tied x y r))

        go : Dec (t u < t v) → Dec (t v < t u) → tree (t u) ≡ tree (t v)
        go (yes l) d = sym (below v u (hop_back r) l)
        go (no m) (yes l) = below u v r l
        go (no m) (no o) = let e : t u ≡ t v = omega arith in rw e

    -- THEOREM. Two stations are joined by rank-i lines just where they are in one tree.
    pub joined_tree : {u v : ℕ} → Chain Ranked Every u v → tree (t u) ≡ tree (t v)
    joined_tree {u} {v} c =
        chain_keeps (λ x. tree (t u) ≡ tree (t x)) (λ x y r e. e ∙ ranked_tree x y r) c refl

    pub tree_joined : (u v : ℕ) → u < n → v < n → tree (t u) ≡ tree (t v) → Chain Ranked Every u v
    tree_joined u v h k e =
        let c : Chain Ranked Every u (get_or order (tree (t v)) 0) = rw e at (root_joined u h) in
        chain_join c (chain_back (λ x y. hop_back) (root_joined v k))
