-- Whether a chain leads from one station to another is decidable: by induction on the number of lines that may be used.
-- Assumes nothing.
use mathlib.Core.Path.{◌≡◌, refl}
use mathlib.Core.Logic.{◌⊎◌, ◌⊎◌.inl, ◌⊎◌.inr}
use Prim.Native.Nat.{ℕ, zero, suc, ◌<◌}
use native.Mathlib.Omega.{arith}
use native.Mathlib.Decide.{map_dec, ℕ_discrete, dec_lt}
use Rattle.network.specs.Lines.{Network, Joins, Joins.forth, Joins.back}
use Rattle.network.specs.Chains.{Hop, Hop.by, Chain, Chain.here, Chain.step}
use Rattle.laws.proofs.Decide.{dec_and, dec_or}
use Rattle.network.proofs.Chains.{hop_map, chain_end, chain_join, chain_map}

module _ (g : Network) (uses : ℕ → Type 0) (stays : ℕ → Type 0) where
  -- joined by lines below m
  abbrev UpTo : ℕ → ℕ → ℕ → Type 0
  UpTo m u v = Chain (Hop g (λ p. (p < m) × uses p)) stays u v

  -- joined by lines below m, or by those and one use of line m
  abbrev Via : ℕ → ℕ → ℕ → Type 0
  Via m u v = UpTo m u v ⊎ (((m < g.lines) × uses m) × ((UpTo m u (g.one m) × UpTo m (g.two m) v) ⊎ (UpTo m u (g.two m) × UpTo m (g.one m) v)))

  more : {m u v : ℕ} → UpTo m u v → UpTo (suc m) u v
  more {m} c = chain_map (λ u v h. hop_map (λ p _ (k : (p < m) × uses p). (omega arith, k.1)) h) c

  upto_via : (m u v : ℕ) → Via m u v → UpTo (suc m) u v
  upto_via m u v (inl c) = more c
  upto_via m u v (inr ((l, h), inl (c, d))) = chain_join (more c) (step (chain_end c) (by m l (omega arith, h) (forth refl refl)) (more d))
  upto_via m u v (inr ((l, h), inr (c, d))) = chain_join (more c) (step (chain_end c) (by m l (omega arith, h) (back refl refl)) (more d))

  -- a hop by line m in front of such a chain
  via_hop : {m u v w : ℕ} → stays u → m < g.lines → uses m → Joins g m u v → Via m v w → Via m u w
  via_hop s l h (forth x y) (inl c) = inr ((l, h), inl (rw x (here s), rw y c))
  via_hop s l h (forth x y) (inr (_, inl (c, d))) = inr ((l, h), inl (rw x (here s), d))
  via_hop s l h (forth x y) (inr (_, inr (c, d))) = inl (rw x at d)
  via_hop s l h (back x y) (inl c) = inr ((l, h), inr (rw y (here s), rw x c))
  via_hop s l h (back x y) (inr (_, inl (c, d))) = inl (rw y at d)
  via_hop s l h (back x y) (inr (_, inr (c, d))) = inr ((l, h), inr (rw y (here s), d))

  -- a hop by a line below m in front of it
  via_old : {m u v w : ℕ} → stays u → Hop g (λ p. (p < m) × uses p) u v → Via m v w → Via m u w
  via_old s h (inl c) = inl (step s h c)
  via_old s h (inr (k, inl (c, d))) = inr (k, inl (step s h c, d))
  via_old s h (inr (k, inr (c, d))) = inr (k, inr (step s h c, d))

  via_upto : {m u v : ℕ} → UpTo (suc m) u v → Via m u v
  via_upto (here s) = inl (here s)
  via_upto {m} {u} {v = w} (step {v = v} s (by p l (lp, h) j) c) = go (ℕ_discrete p m) (via_upto c)
    where
      go : Dec (p ≡ m) → Via m v w → Via m u w
      go (yes e) r = via_hop s (rw e at l) (rw e at h) (rw e at j) r
      go (no n) r = via_old s (by p l (omega arith, h) j) r

  upto_zero : {u v : ℕ} → UpTo 0 u v → (u ≡ v) × stays u
  upto_zero (here s) = (refl, s)
  upto_zero (step s (by p l h j) c) = absurd (omega arith)

  module _ (dec_uses : (p : ℕ) → Dec (uses p)) (dec_stays : (v : ℕ) → Dec (stays v)) where
    dec_upto : (m u v : ℕ) → Dec (UpTo m u v)
    dec_upto zero u v = map_dec (λ h. rw (← h.0) (here h.1)) upto_zero (dec_and (ℕ_discrete u v) (dec_stays u))
    dec_upto (suc m) u v =
        map_dec (upto_via m u v) via_upto
        (dec_or (dec_upto m u v)
        (dec_and (dec_and (dec_lt m g.lines) (dec_uses m))
        (dec_or (dec_and (dec_upto m u (g.one m)) (dec_upto m (g.two m) v)) (dec_and (dec_upto m u (g.two m)) (dec_upto m (g.one m) v)))))

    pub dec_chain : (u v : ℕ) → Dec (Chain (Hop g uses) stays u v)
    dec_chain u v =
        map_dec
        (chain_map (λ u v h. hop_map (λ p _ (k : (p < g.lines) × uses p). k.1) h))
        (chain_map (λ u v h. hop_map (λ p l (k : uses p). (l, k)) h))
        (dec_upto g.lines u v)
