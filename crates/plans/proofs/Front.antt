-- What stands past the ranks and the orders of a plan changes nothing: with more behind them it meets the definition still.
-- Assumes nothing.
use Prim.Native.Nat.{ℕ, ◌+◌, ◌*◌, ◌/◌, ◌≤◌, ◌<◌}
use mathlib.Core.Path.{◌≡◌}
use mathlib.Core.Logic.{◌≢◌}
use mathlib.Core.List.{List, ◌++◌}
use native.Mathlib.Omega.{arith}
use lib.ListN.{length, get_or, drop, length-drop, get_or-append}
use lib.Seq.{drop-append-le, take-append-le}
use Rattle.laws.proofs.Lists.{part_fits}
use Rattle.network.specs.Lines.{Network}
use Rattle.network.proofs.Chains.{hop_map, chain_map}
use Rattle.plans.specs.Orders.{order_of}
use Rattle.plans.specs.Published.{Greedy, Arrow, Parent, Parent.above, Parent.itself}
use Rattle.plans.specs.Plans.{InPlay, OfRank, PlanMeets}

-- The definition asks of the lines E and F no more than which places of the list are in them.
module _ {g : Network} {E E' F F' : ℕ → Type 0} {t : ℕ → ℕ}
    (ef : (p : ℕ) → p < g.lines → E p → E' p) (eb : (p : ℕ) → p < g.lines → E' p → E p)
    (ff : (p : ℕ) → p < g.lines → F p → F' p) (fb : (p : ℕ) → p < g.lines → F' p → F p) where
  arrow_back : {u v : ℕ} → Arrow g F' t u v → Arrow g F t u v
  arrow_back a = record { line = hop_map fb a.line; rises = a.rises }

  arrow_forth : {u v : ℕ} → Arrow g F t u v → Arrow g F' t u v
  arrow_forth a = record { line = hop_map ff a.line; rises = a.rises }

  parent_back : {u v : ℕ} → Parent g F' t v u → Parent g F t v u
  parent_back (above a) = above (arrow_back a)
  parent_back (itself none) = itself (λ u a. none u (arrow_forth a))

  greedy_same : Greedy g E F t → Greedy g E' F' t
  greedy_same G =
      record {
        maximal = record {
          within = λ p l f. ef p l (G.maximal.within p l (fb p l f));
          forest = λ p l f c. G.maximal.forest p l (fb p l f) (chain_map (λ u v h. hop_map (λ q m (x : F' q × (q ≢ p)). (fb q m x.0, x.1)) h) c);
          maximal = λ p l e. chain_map (λ u v h. hop_map ff h) (G.maximal.maximal p l (eb p l e));
        };
        numbering = G.numbering;
        rooted = λ v l.
            let R = G.rooted v l in
            record {
              root = R.root;
              inside = chain_map (λ x y h. hop_map ff h) R.inside;
              leads = λ w m c. chain_map (λ x y a. arrow_forth a) (R.leads w m (chain_map (λ x y h. hop_map fb h) c));
            };
        parent = λ w v u h q. G.parent w v u (hop_map eb h) (parent_back q);
      }

module _ (n k : ℕ) (lines ranks orders more rest : List ℕ) (ranked : length lines / 2 ≤ length ranks) (ordered : k * n ≤ length orders) where
  same_rank : (p : ℕ) → p < length lines / 2 → get_or (ranks ++ more) p 0 ≡ get_or ranks p 0
  same_rank p l = get_or-append ranks more 0 p (omega arith)

  pub same_order : (i : ℕ) → i < k → order_of n (orders ++ rest) i ≡ order_of n orders i
  unfolding order_of
  same_order i h =
      let fits = part_fits i k n h in
      rw (
        drop-append-le (i * n) orders rest (omega (arith, fits)),
        take-append-le n (drop (i * n) orders) rest (simp length-drop (omega (arith, fits))),
      )

  pub meets_front : PlanMeets n k lines ranks orders → PlanMeets n k lines (ranks ++ more) (orders ++ rest)
  meets_front M =
      record {
        ranks_most = λ p l. rw (same_rank p l) (M.ranks_most p l);
        rounds = λ i l.
            let R = M.rounds i l in
            rw (same_order i l)
            (record {
              each_once = R.each_once;
              greedy = greedy_same
                  (λ p m (x : InPlay ranks (i + 1) p). rw (same_rank p m) x)
                  (λ p m (x : InPlay (ranks ++ more) (i + 1) p). rw (same_rank p m) at x)
                  (λ p m (x : OfRank ranks (i + 1) p). rw (same_rank p m) x)
                  (λ p m (x : OfRank (ranks ++ more) (i + 1) p). rw (same_rank p m) at x)
                  R.greedy;
            });
      }
