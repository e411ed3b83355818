-- The laws of hops and chains: turned round, put one after the other, and taken over to what becomes of each single hop.
-- Assumes nothing.
use Prim.Native.Nat.{ℕ, ◌<◌}
use mathlib.Core.Path.{sym, ◌∙◌}
use mathlib.Core.Logic.{◌≢◌}
use Rattle.network.specs.Lines.{Network, Joins, Joins.forth, Joins.back, Proper}
use Rattle.network.specs.Chains.{Hop, Hop.by, Chain, Chain.here, Chain.step}

-- ── one line ──

pub joins_back : {g : Network} {p u v : ℕ} → Joins g p u v → Joins g p v u
joins_back (forth x y) = back x y
joins_back (back x y) = forth x y

-- The ends of a line are stations, and differ.
pub joins_in : {g : Network} {p u v : ℕ} → Proper g → p < g.lines → Joins g p u v → u < g.stations
joins_in {p = p} proper l (forth x y) = rw x at (proper.one_in p l)
joins_in {p = p} proper l (back x y) = rw y at (proper.two_in p l)

pub joins_apart : {g : Network} {p u v : ℕ} → Proper g → p < g.lines → Joins g p u v → u ≢ v
joins_apart {p = p} proper l (forth x y) e = proper.apart p l (x ∙ (e ∙ sym y))
joins_apart {p = p} proper l (back x y) e = proper.apart p l (x ∙ (sym e ∙ sym y))

-- ── hops ──

pub hop_back : {g : Network} {uses : ℕ → Type 0} {u v : ℕ} → Hop g uses u v → Hop g uses v u
hop_back (by p l h j) = by p l h (joins_back j)

pub hop_in : {g : Network} {uses : ℕ → Type 0} {u v : ℕ} → Proper g → Hop g uses u v → u < g.stations
hop_in proper (by p l h j) = joins_in proper l j

pub hop_apart : {g : Network} {uses : ℕ → Type 0} {u v : ℕ} → Proper g → Hop g uses u v → u ≢ v
hop_apart proper (by p l h j) = joins_apart proper l j

-- A hop by lines of one kind is one by lines of another, if each line is.
pub hop_map : {g : Network} {uses uses' : ℕ → Type 0} {u v : ℕ} → ((p : ℕ) → p < g.lines → uses p → uses' p) → Hop g uses u v → Hop g uses' u v
hop_map f (by p l h j) = by p l (f p l h) j

-- ── chains ──

pub chain_start : {hop : ℕ → ℕ → Type 0} {stays : ℕ → Type 0} {u v : ℕ} → Chain hop stays u v → stays u
chain_start (here s) = s
chain_start (step s h c) = s

pub chain_end : {hop : ℕ → ℕ → Type 0} {stays : ℕ → Type 0} {u v : ℕ} → Chain hop stays u v → stays v
chain_end (here s) = s
chain_end (step s h c) = chain_end c

pub chain_hop : {hop : ℕ → ℕ → Type 0} {stays : ℕ → Type 0} {u v : ℕ} → stays u → stays v → hop u v → Chain hop stays u v
chain_hop s t h = step s h (here t)

pub chain_join : {hop : ℕ → ℕ → Type 0} {stays : ℕ → Type 0} {u v w : ℕ} → Chain hop stays u v → Chain hop stays v w → Chain hop stays u w
chain_join (here s) d = d
chain_join (step s h c) d = step s h (chain_join c d)

-- A chain of hops that can be turned round can be turned round.
pub chain_back : {hop : ℕ → ℕ → Type 0} {stays : ℕ → Type 0} {u v : ℕ} → ((x y : ℕ) → hop x y → hop y x) → Chain hop stays u v → Chain hop stays v u
chain_back turn (here s) = here s
chain_back turn (step s h c) = chain_join (chain_back turn c) (chain_hop (chain_start c) s (turn _ _ h))

-- A chain of one kind of hop is one of another, if each single hop between stations that stay is a chain of the other.
pub chain_by : {hop hop' : ℕ → ℕ → Type 0} {stays : ℕ → Type 0} {u v : ℕ}
    → ((x y : ℕ) → stays x → stays y → hop x y → Chain hop' stays x y) → Chain hop stays u v → Chain hop' stays u v
chain_by f (here s) = here s
chain_by f (step s h c) = chain_join (f _ _ s (chain_start c) h) (chain_by f c)

-- The same, where each hop becomes a hop.
pub chain_map : {hop hop' : ℕ → ℕ → Type 0} {stays : ℕ → Type 0} {u v : ℕ} → ((x y : ℕ) → hop x y → hop' x y) → Chain hop stays u v → Chain hop' stays u v
chain_map f c = chain_by (λ x y s t h. chain_hop s t (f x y h)) c

-- A chain whose stations stay by one rule is one whose stations stay by another, if each of them does.
pub chain_stays : {hop : ℕ → ℕ → Type 0} {stays stays' : ℕ → Type 0} {u v : ℕ} → ((x : ℕ) → stays x → stays' x) → Chain hop stays u v → Chain hop stays' u v
chain_stays f (here s) = here (f _ s)
chain_stays f (step s h c) = step (f _ s) h (chain_stays f c)

-- What each hop keeps, a chain keeps.
pub chain_keeps : {hop : ℕ → ℕ → Type 0} {stays : ℕ → Type 0} {u v : ℕ} (P : ℕ → Type 0) → ((x y : ℕ) → hop x y → P x → P y) → Chain hop stays u v → P u → P v
chain_keeps P keep (here s) h = h
chain_keeps P keep (step s x c) h = chain_keeps P keep c (keep _ _ x h)
