-- What is seen in a pass, as it grows: what was seen before, what is new, and the station that is visited.
-- Assumes nothing.
use Prim.Native.Nat.{ℕ, ◌<◌, ◌≤◌}
use mathlib.Core.Path.{◌≡◌, refl, sym, ◌∙◌}
use mathlib.Core.Logic.{◌≢◌, ◌⊎◌, ◌⊎◌.inl, ◌⊎◌.inr}
use mathlib.Core.Bool.{Bool, true, false, true≢false}
use mathlib.Core.List.{List}
use native.Mathlib.Decide.{ℕ_discrete}
use native.Mathlib.Omega.{arith}
use borrow.Author.Tests.{ne_eqb, eq-eqb}
use lib.ListN.{get_or}
use lib.Dec.{eqb}
use Rattle.laws.proofs.Truth.{neither}
use Rattle.network.specs.Chains.{Chain}
use Rattle.network.proofs.Chains.{hop_back, chain_join, chain_back}
use Rattle.pieces.specs.Joined.{Remains, Joined}
use Rattle.neighbours.specs.Near.{Line}
use Rattle.cuts.specs.Cuts.{and_away}
use Rattle.cuts.specs.Passes.{Seen, New, Start}

-- A station that stays when z is taken away too stays, and is not z; and the other way round.
pub besides : (n : ℕ) (away : ℕ → Bool) (z v : ℕ) → Remains n away v → v ≢ z → Remains n (and_away away z) v
besides n away z v r m = record { station = r.station; stays = rw (r.stays, ne_eqb z v (λ (e : z ≡ v). m (sym e))) }

pub besides_stays : (n : ℕ) (away : ℕ → Bool) (z v : ℕ) → Remains n (and_away away z) v → Remains n away v
besides_stays n away z v r = record { station = r.station; stays = (neither (away v) (eqb z v) r.stays).0 }

pub besides_other : (n : ℕ) (away : ℕ → Bool) (z v : ℕ) → Remains n (and_away away z) v → v ≢ z
besides_other n away z v r e = true≢false (sym (eq-eqb z v (sym e)) ∙ (neither (away v) (eqb z v) r.stays).1)

-- The same chain from its other end.
pub turn : (n : ℕ) (lines : List ℕ) {stays : ℕ → Type 0} {x y : ℕ} → Chain (Line n lines) stays x y → Chain (Line n lines) stays y x
turn n lines c = chain_back (λ x y h. hop_back h) c

-- What is seen later was seen before, or is new.
pub before_or_new : {n : ℕ} {away : ℕ → Bool} (s t : List ℕ) (x : ℕ) → Seen n away t x → Seen n away s x ⊎ New n away s t x
before_or_new {n} {away} s t x sx = go (ℕ_discrete (get_or s x 0) 0)
  where
    go : Dec (get_or s x 0 ≡ 0) → Seen n away s x ⊎ New n away s t x
    go (yes e) = inr (record { seen = sx; fresh = e })
    go (no m) = inl (record { remains = sx.remains; deep = m })

-- What is seen stays seen.
pub still_seen : {n : ℕ} {away : ℕ → Bool} (s t : List ℕ) → ((v : ℕ) → get_or s v 0 ≢ 0 → get_or t v 0 ≡ get_or s v 0) → (x : ℕ) → Seen n away s x → Seen n away t x
still_seen s t kept x sx = record { remains = sx.remains; deep = λ (e : get_or t x 0 ≡ 0). sx.deep (sym (kept x sx.deep) ∙ e) }

-- What is not seen now was not before.
pub fresh_before : (s t : List ℕ) → ((v : ℕ) → get_or s v 0 ≢ 0 → get_or t v 0 ≡ get_or s v 0) → (x : ℕ) → get_or t x 0 ≡ 0 → get_or s x 0 ≡ 0
fresh_before s t kept x e = go (ℕ_discrete (get_or s x 0) 0)
  where
    go : Dec (get_or s x 0 ≡ 0) → get_or s x 0 ≡ 0
    go (yes f) = f
    go (no m) = absurd (m (sym (kept x m) ∙ e))

-- Where each of the stations seen but z is joined to one of them without z, any two are.
pub by_hub : (n : ℕ) (lines : List ℕ) (away : ℕ → Bool) (t : List ℕ) (z hub : ℕ) → ((x : ℕ) → Seen n away t x → x ≢ z → Joined n lines (and_away away z) x hub)
    → (x y : ℕ) → Seen n away t x → Seen n away t y → x ≢ z → y ≢ z → Joined n lines (and_away away z) x y
by_hub n lines away t z hub f x y sx sy mx my = chain_join (f x sx mx) (turn n lines (f y sy my))

-- A station that is taken away keeps its depth, which is none of a visit.
pub gone_deep : {n : ℕ} {lines : List ℕ} {away : ℕ → Bool} {s : List ℕ} {u d : ℕ} (t : List ℕ) → Start n lines away s u d → ((v : ℕ) → get_or s v 0 ≢ 0 → get_or t v 0 ≡ get_or s v 0) → (v : ℕ) → v < n → away v ≡ true → 1024 < get_or t v 0
gone_deep {s = s} t S kept v l e = let g = S.gone v l e in omega (arith, kept v (λ (x : get_or s v 0 ≡ 0). omega arith))

-- A station that has a depth of a visit, or none, remains.
pub shallow : {n : ℕ} {lines : List ℕ} {away : ℕ → Bool} {s : List ℕ} {u d : ℕ} (t : List ℕ) → Start n lines away s u d → ((v : ℕ) → get_or s v 0 ≢ 0 → get_or t v 0 ≡ get_or s v 0) → (v : ℕ) → v < n → get_or t v 0 ≤ 1024 → Remains n away v
shallow {away = away} t S kept v l h = record { station = l; stays = go (away v) refl }
  where
    go : (b : Bool) → away v ≡ b → b ≡ false
    go true e = absurd (omega (arith, gone_deep t S kept v l e))
    go false e = refl

-- The station that is visited is new, once it has its depth.
pub own_new : {n : ℕ} {lines : List ℕ} {away : ℕ → Bool} {s t : List ℕ} {u d : ℕ} → Start n lines away s u d → get_or t u 0 ≡ d → New n away s t u
own_new {s = s} {t = t} {u = u} S here =
    record {
      seen = record { remains = shallow s S (λ v m. refl) u S.station (omega (arith, S.fresh)); deep = λ (e : get_or t u 0 ≡ 0). omega (arith, here, S.some) };
      fresh = S.fresh;
    }
