-- Source document 000, Definition 1, with every station in S, clause by clause. docs/DEFINITION.md sets the paper's words beside it.
-- The paper's graph G is given by the lines E, its forest by the lines F; its vertices are the stations.
-- Assumes nothing.
use Rattle.std.specs.Prelude.{ℕ, ◌<◌, ◌≤◌, ◌≡◌, ◌≢◌}
use Rattle.network.specs.Lines.{Network}
use Rattle.network.specs.Chains.{Hop, Chain, Every}

-- "F is a maximal forest in G": F is of G's lines; no line of F has its ends joined by the others of F; every line of G has its ends joined in F.
pub record MaximalForest (g : Network) (E F : ℕ → Type 0) : Type 0 where
  pub within : (p : ℕ) → p < g.lines → F p → E p
  pub forest : (p : ℕ) → p < g.lines → F p → ¬ Chain (Hop g (λ q. F q × (q ≢ p))) Every (g.one p) (g.two p)
  pub maximal : (p : ℕ) → p < g.lines → E p → Chain (Hop g F) Every (g.one p) (g.two p)

-- "t is a one-to-one numbering of the vertices". We number from 0.
pub record Numbering (n : ℕ) (t : ℕ → ℕ) : Type 0 where
  pub number : (v : ℕ) → v < n → t v < n
  pub one_to_one : (u v : ℕ) → u < n → v < n → t u ≡ t v → u ≡ v

-- "u → v: u-v is in F and t(u) < t(v)".
pub record Arrow (g : Network) (F : ℕ → Type 0) (t : ℕ → ℕ) (u v : ℕ) : Type 0 where
  pub line : Hop g F u v
  pub rises : t u < t v

-- "T(t) is a rooted tree", T the tree of v in F: it has a root, from which arrows lead to every station of T.
pub record Rooted (g : Network) (F : ℕ → Type 0) (t : ℕ → ℕ) (v : ℕ) : Type 0 where
  pub root : ℕ
  pub inside : Chain (Hop g F) Every v root
  pub leads : (w : ℕ) → w < g.stations → Chain (Hop g F) Every v w → Chain (Arrow g F t) Every root w

-- "parent(v) is the unique u such that u → v; also parent(r) = r" for a root r, to which no arrow leads.
pub data Parent (g : Network) (F : ℕ → Type 0) (t : ℕ → ℕ) (v : ℕ) : ℕ → Type 0 where
  above : {u : ℕ} → Arrow g F t u v → Parent g F t v u
  itself : ((u : ℕ) → ¬ Arrow g F t u v) → Parent g F t v v

-- Definition 1: "A maximal F is S-greedy in G if there exists a numbering t of the vertices such that (1) for every (maximal) tree T of F,
-- T(t) is a rooted tree; (2) if w-v is in E and w is in S then t(parent(v)) ≤ t(w)". Here t is given.
pub record Greedy (g : Network) (E F : ℕ → Type 0) (t : ℕ → ℕ) : Type 0 where
  pub maximal : MaximalForest g E F
  pub numbering : Numbering g.stations t
  pub rooted : (v : ℕ) → v < g.stations → Rooted g F t v
  pub parent : (w v u : ℕ) → Hop g E w v → Parent g F t v u → t u ≤ t w
