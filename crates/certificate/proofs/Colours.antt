-- Colourings of the stations: taken away, or on this or that side of a cut.
-- Assumes nothing.
use Prim.Native.Nat.{ℕ, ◌≤◌, ◌<◌}
use mathlib.Core.Path.{◌≡◌, refl}
use mathlib.Core.Logic.{◌≢◌, ◌⊎◌, ◌⊎◌.inl, ◌⊎◌.inr}
use native.Mathlib.Decide.{ℕ_discrete}
use native.Mathlib.Omega.{arith}

-- A station is taken away, or it is on the near or the far side of the cut.
pub data Colour : Type 0 where
  gone near far : Colour

-- A station in the cut counts.
abbrev pub weight : Colour → ℕ
weight gone = 1
weight near = 0
weight far = 0

pub gone_near : gone ≢ near
gone_near e = let z : ◌≡◌ {A = ℕ} 0 1 = cc in omega arith

pub gone_far : gone ≢ far
gone_far e = let z : ◌≡◌ {A = ℕ} 0 1 = cc in omega arith

pub near_far : near ≢ far
near_far e = let z : ◌≡◌ {A = ℕ} 0 1 = cc in omega arith

pub dec_far : (x : Colour) → Dec (x ≡ far)
dec_far gone = no gone_far
dec_far near = no near_far
dec_far far = yes refl

-- ── the two sides change places ──

abbrev pub flip : Colour → Colour
flip gone = gone
flip near = far
flip far = near

pub flip_near : (x : Colour) → flip x ≡ near → x ≡ far
flip_near gone e = cc
flip_near near e = cc
flip_near far e = refl

pub flip_far : (x : Colour) → flip x ≡ far → x ≡ near
flip_far gone e = cc
flip_far near e = refl
flip_far far e = cc

pub weight_flip : (x : Colour) → weight (flip x) ≡ weight x
weight_flip gone = refl
weight_flip near = refl
weight_flip far = refl

-- ── a station becomes near ──

abbrev near_if : {P : Type 0} → Dec P → Colour → Colour
near_if (yes p) x = near
near_if (no n) x = x

abbrev pub paint : (ℕ → Colour) → ℕ → ℕ → Colour
paint c w v = near_if (ℕ_discrete v w) (c v)

module _ (c : ℕ → Colour) (w v : ℕ) where
  pub paint_far : paint c w v ≡ far → c v ≡ far
  paint_far e = go (ℕ_discrete v w) e
    where
      go : (d : Dec (v ≡ w)) → near_if d (c v) ≡ far → c v ≡ far
      go (yes p) e = cc
      go (no n) e = e

  pub paint_near : paint c w v ≡ near → (v ≡ w) ⊎ (c v ≡ near)
  paint_near e = go (ℕ_discrete v w) e
    where
      go : (d : Dec (v ≡ w)) → near_if d (c v) ≡ near → (v ≡ w) ⊎ (c v ≡ near)
      go (yes p) e = inl p
      go (no n) e = inr e

  pub paint_same : (x : Colour) → c v ≡ x → c w ≢ x → paint c w v ≡ x
  paint_same x e n = go (ℕ_discrete v w)
    where
      go : (d : Dec (v ≡ w)) → near_if d (c v) ≡ x
      go (yes p) = absurd (n (rw p at e))
      go (no _) = e

  pub paint_weight : weight (paint c w v) ≤ weight (c v)
  paint_weight = go (ℕ_discrete v w)
    where
      go : (d : Dec (v ≡ w)) → weight (near_if d (c v)) ≤ weight (c v)
      go (yes p) = omega arith
      go (no n) = omega arith

pub paint_less : (c : ℕ → Colour) (w : ℕ) → c w ≡ gone → weight (paint c w w) < weight (c w)
paint_less c w e = go (ℕ_discrete w w)
  where
    go : (d : Dec (w ≡ w)) → weight (near_if d (c w)) < weight (c w)
    go (yes p) = rw e (omega arith)
    go (no n) = absurd (n refl)
