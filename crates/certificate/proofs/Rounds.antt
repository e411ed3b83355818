-- What a round that meets the published definition shows: the ends of a line in play are in one tree; an arrow leads to a station from
-- the earliest of its neighbours in play; and the arrow to a station is one.
-- Assumes nothing.
use Prim.Native.Nat.{ℕ, ◌≤◌, ◌<◌}
use mathlib.Core.Path.{◌≡◌}
use native.Mathlib.Omega.{arith}
use Rattle.network.specs.Lines.{Network, Joins, Joins.forth, Joins.back, Simple}
use Rattle.network.specs.Chains.{Hop, Hop.by, Chain, Chain.here, Chain.step, Every}
use Rattle.network.proofs.Chains.{hop_back, hop_in, chain_back}
use Rattle.plans.specs.Published.{Arrow, Parent.above, Greedy}

-- The last arrow of a chain of arrows from z to v.
pub record LastArrow (g : Network) (F : ℕ → Type 0) (t : ℕ → ℕ) (z v : ℕ) : Type 0 where
  pub from : ℕ
  pub arrow : Arrow g F t from v
  pub late : t z ≤ t from

pub last_arrow : {g : Network} {F : ℕ → Type 0} {t : ℕ → ℕ} {z x v : ℕ} → Arrow g F t z x → Chain (Arrow g F t) Every x v → LastArrow g F t z v
last_arrow {z = z} a (here _) = record { from = z; arrow = a; late = omega arith }
last_arrow a (step _ b c) = let m = last_arrow b c in record { from = m.from; arrow = m.arrow; late = omega (arith, a.rises) }

module _ {g : Network} {E F : ℕ → Type 0} {t : ℕ → ℕ} (G : Greedy g E F t) where
  -- The ends of a line in play are in one tree.
  pub play_joined : {u v : ℕ} → Hop g E u v → Chain (Hop g F) Every u v
  play_joined (by p l h (forth x y)) = rw (x, y) at (G.maximal.maximal p l h)
  play_joined (by p l h (back x y)) = chain_back (λ u v h. hop_back h) (rw (x, y) at (G.maximal.maximal p l h))

  -- No neighbour in play of a station is earlier than the one from which an arrow leads to it.
  pub arrow_first : {u v w : ℕ} → Arrow g F t u v → Hop g E w v → t u ≤ t w
  arrow_first {u} {v} {w} a h = G.parent w v u h (above a)

  -- Two lines of the forest that lead to one station from earlier ones are one line.
  pub arrow_once : {p q u w v : ℕ} → Simple g → p < g.lines → q < g.lines → F p → F q → Joins g p u v → Joins g q w v → t u < t v → t w < t v → p ≡ q
  arrow_once {p} {q} {u} {w} {v} simple lp lq fp fq jp jq up wp =
      let ends : Hop g F u v = by p lp fp jp in
      let ends' : Hop g F w v = by q lq fq jq in
      let first : t u ≤ t w = arrow_first (record { line = ends; rises = up }) (by q lq (G.maximal.within q lq fq) jq) in
      let first' : t w ≤ t u = arrow_first (record { line = ends'; rises = wp }) (by p lp (G.maximal.within p lp fp) jp) in
      let same : u ≡ w = G.numbering.one_to_one u w (hop_in simple.proper ends) (hop_in simple.proper ends') (omega arith) in
      simple.once p q w v lp lq (rw same at jp) jq
