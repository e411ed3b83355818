-- A list of lines that grows by a line at its end: its neighbours are those it had and the new line's ends,
-- and it stays simple where these were no neighbours. Assumes nothing.
use Prim.Native.Nat.{ℕ, suc, ◌+◌, ◌*◌, ◌/◌, ◌<◌}
use mathlib.Core.Path.{◌≡◌, refl, sym, ◌∙◌}
use mathlib.Core.Logic.{◌⊎◌, ◌⊎◌.inl, ◌⊎◌.inr}
use mathlib.Core.List.{List, [], ◌∷◌, ◌++◌}
use native.Mathlib.Decide.{ℕ_discrete}
use native.Mathlib.Omega.{arith}
use lib.ListN.{length, get_or, length-append, get_or-append}
use lib.Seq.{get_or-append-add}
use Rattle.network.specs.Lines.{end_one, end_two, Network, network, Joins, Joins.forth, Joins.back, Proper, Simple}
use Rattle.network.specs.Chains.{Hop, Hop.by, Every}
use Rattle.network.proofs.Chains.{hop_back}

-- A list of whole lines, simple, in which just those stations are neighbours that are near.
pub record Neighbours (n : ℕ) (lines : List ℕ) (near : ℕ → ℕ → Type 0) : Type 0 where
  pub even : length lines ≡ 2 * (length lines / 2)
  pub simple : Simple (network n lines)
  pub has : (u v : ℕ) → Hop (network n lines) Every u v → near u v
  pub all : (u v : ℕ) → near u v → Hop (network n lines) Every u v

pub neighbours_as : {n : ℕ} {lines : List ℕ} {near near' : ℕ → ℕ → Type 0} → ((u v : ℕ) → near u v → near' u v) → ((u v : ℕ) → near' u v → near u v)
    → Neighbours n lines near → Neighbours n lines near'
neighbours_as f f' s = record { even = s.even; simple = s.simple; has = λ u v h. f u v (s.has u v h); all = λ u v h. s.all u v (f' u v h) }

-- The empty list has no neighbours.
pub neighbours_none : {n : ℕ} → Neighbours n [] (λ u v. ⊥)
neighbours_none =
    record {
      even = refl;
      simple = record {
        proper = record { one_in = λ p l. absurd (omega arith); two_in = λ p l. absurd (omega arith); apart = λ p l. absurd (omega arith) };
        once = λ p q u v l. absurd (omega arith);
      };
      has = λ u v h. none h;
      all = λ u v h. absurd h;
    }
  where
    none : {n u v : ℕ} → Hop (network n []) Every u v → ⊥
    none (by p l _ j) = omega arith

-- A line's ends, in a list that has them at another place.
joins_as : {g h : Network} {p q u v : ℕ} → g.one p ≡ h.one q → g.two p ≡ h.two q → Joins g p u v → Joins h q u v
joins_as a b (forth x y) = forth (sym a ∙ x) (sym b ∙ y)
joins_as a b (back x y) = back (sym a ∙ x) (sym b ∙ y)

-- `old` grows by the line at place p of `lines`.
module _ {n : ℕ} {old : List ℕ} {near : ℕ → ℕ → Type 0} (S : Neighbours n old near) (lines : List ℕ) (p : ℕ) where
  abbrev Grown : List ℕ
  Grown = old ++ (end_one lines p ∷ (end_two lines p ∷ []))

  size : length Grown / 2 ≡ suc (length old / 2)
  size = omega (arith, length-append old (end_one lines p ∷ (end_two lines p ∷ [])), S.even)

  old_at : (x : ℕ) → x < length old → get_or Grown x 0 ≡ get_or old x 0
  old_at x h = get_or-append old (end_one lines p ∷ (end_two lines p ∷ [])) 0 x h

  new_at : (x y : ℕ) → x ≡ length old + y → get_or Grown x 0 ≡ get_or (end_one lines p ∷ (end_two lines p ∷ [])) y 0
  new_at x y e = rw e (get_or-append-add old (end_one lines p ∷ (end_two lines p ∷ [])) y 0)

  -- the line at place q of the grown list is one of the old or the new one
  one_old : (q : ℕ) → q < length old / 2 → end_one Grown q ≡ end_one old q
  one_old q l = old_at (2 * q) (omega (arith, S.even))

  two_old : (q : ℕ) → q < length old / 2 → end_two Grown q ≡ end_two old q
  two_old q l = old_at (2 * q + 1) (omega (arith, S.even))

  one_new : end_one Grown (length old / 2) ≡ end_one lines p
  one_new = new_at (2 * (length old / 2)) 0 (omega (arith, S.even))

  two_new : end_two Grown (length old / 2) ≡ end_two lines p
  two_new = new_at (2 * (length old / 2) + 1) 1 (omega (arith, S.even))

  -- what is so of the old lines and of the new one is so of all
  each : (P : ℕ → ℕ → Type 0) → ((q : ℕ) → q < length old / 2 → P (end_one old q) (end_two old q)) → P (end_one lines p) (end_two lines p)
      → (q : ℕ) → q < length Grown / 2 → P (end_one Grown q) (end_two Grown q)
  each P f h q l = go (ℕ_discrete q (length old / 2))
    where
      go : Dec (q ≡ length old / 2) → P (end_one Grown q) (end_two Grown q)
      go (yes e) = rw (e, one_new, two_new) h
      go (no o) = let k : q < length old / 2 = omega (arith, size) in rw (one_old q k, two_old q k) (f q k)

  -- the old place of a line, or the new line
  place : {q u v : ℕ} → q < length Grown / 2 → Joins (network n Grown) q u v
      → ((q < length old / 2) × Joins (network n old) q u v) ⊎ ((q ≡ length old / 2) × Joins (network n lines) p u v)
  place {q} {u} {v} l j = go (ℕ_discrete q (length old / 2))
    where
      go : Dec (q ≡ length old / 2) → ((q < length old / 2) × Joins (network n old) q u v) ⊎ ((q ≡ length old / 2) × Joins (network n lines) p u v)
      go (yes e) = inr (e, joins_as one_new two_new (rw e at j))
      go (no o) = let k : q < length old / 2 = omega (arith, size) in inl (k, joins_as (one_old q k) (two_old q k) j)

  old_hop : {u v : ℕ} → Hop (network n old) Every u v → Hop (network n Grown) Every u v
  old_hop (by q l _ j) = by q (omega (arith, size)) tt (joins_as (sym (one_old q l)) (sym (two_old q l)) j)

  new_hop : {u v : ℕ} → Joins (network n lines) p u v → Hop (network n Grown) Every u v
  new_hop j = by (length old / 2) (omega (arith, size)) tt (joins_as (sym one_new) (sym two_new) j)

  grown_hop : {u v : ℕ} → Hop (network n Grown) Every u v → near u v ⊎ Joins (network n lines) p u v
  grown_hop {u} {v} (by q l _ j) = go (place l j)
    where
      go : ((q < length old / 2) × Joins (network n old) q u v) ⊎ ((q ≡ length old / 2) × Joins (network n lines) p u v) → near u v ⊎ Joins (network n lines) p u v
      go (inl (k, i)) = inl (S.has u v (by q k tt i))
      go (inr (e, i)) = inr i

  -- One line more, between stations that were no neighbours.
  pub neighbours_more : Proper (network n lines) → p < length lines / 2 → ¬ near (end_one lines p) (end_two lines p)
      → Neighbours n (old ++ (end_one lines p ∷ (end_two lines p ∷ []))) (λ u v. near u v ⊎ Joins (network n lines) p u v)
  neighbours_more proper l new =
      record {
        even = omega (arith, length-append old (end_one lines p ∷ (end_two lines p ∷ [])), S.even);
        simple = record {
          proper = record {
            one_in = each (λ u v. u < n) S.simple.proper.one_in (proper.one_in p l);
            two_in = each (λ u v. v < n) S.simple.proper.two_in (proper.two_in p l);
            apart = each (λ u v. ¬ (u ≡ v)) S.simple.proper.apart (proper.apart p l);
          };
          once = λ q r u v lq lr jq jr. once q r u v (place lq jq) (place lr jr);
        };
        has = λ u v h. grown_hop h;
        all = λ u v h. elim h [ inl k ↦ old_hop (S.all u v k) | inr j ↦ new_hop j ];
      }
    where
      -- no old line has the new line's ends
      fresh : {q u v : ℕ} → q < length old / 2 → Joins (network n old) q u v → Joins (network n lines) p u v → ⊥
      fresh {q} {u} {v} k j (forth x y) = new (rw (x, y) (S.has u v (by q k tt j)))
      fresh {q} {u} {v} k j (back x y) = new (rw (x, y) (S.has v u (hop_back (by q k tt j))))

      once : (q r u v : ℕ) → ((q < length old / 2) × Joins (network n old) q u v) ⊎ ((q ≡ length old / 2) × Joins (network n lines) p u v)
          → ((r < length old / 2) × Joins (network n old) r u v) ⊎ ((r ≡ length old / 2) × Joins (network n lines) p u v) → q ≡ r
      once q r u v (inl (kq, jq)) (inl (kr, jr)) = S.simple.once q r u v kq kr jq jr
      once q r u v (inl (kq, jq)) (inr (er, jr)) = absurd (fresh kq jq jr)
      once q r u v (inr (eq, jq)) (inl (kr, jr)) = absurd (fresh kr jr jq)
      once q r u v (inr (eq, jq)) (inr (er, jr)) = eq ∙ sym er
