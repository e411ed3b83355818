-- The kept lines as a list of their own: it is sound, its neighbours are those by lines of nonzero rank,
-- and it is alike at k to the whole list. Assumes nothing.
use Prim.Native.Nat.{ℕ, zero, suc, ◌/◌, ◌<◌, ◌≤◌}
use mathlib.Core.Path.{◌≡◌, refl}
use mathlib.Core.Bool.{Bool, true, false}
use mathlib.Core.Logic.{◌⊎◌, ◌⊎◌.inl, ◌⊎◌.inr, ◌↔◌}
use mathlib.Core.List.{List, [], ◌∷◌, ◌++◌}
use native.Mathlib.Decide.{ℕ_discrete}
use native.Mathlib.Omega.{arith}
use borrow.Author.Tests.{eqb-true, eqb-false, not-true, not-false}
use lib.Dec.{eqb}
use lib.ListN.{length, get_or}
use Rattle.laws.specs.Fold.{pick, up_to}
use Rattle.laws.proofs.Count.{count_most}
use Rattle.network.specs.Lines.{end_one, end_two, network, Joins, Joins.forth}
use Rattle.network.specs.Chains.{Hop, Hop.by, Every}
use Rattle.network.specs.Faults.{Sound}
use Rattle.network.proofs.Chains.{hop_map, chain_map}
use Rattle.network.proofs.Longer.{Neighbours, neighbours_as, neighbours_none, neighbours_more}
use Rattle.plans.specs.Plans.{PlanMeets}
use Rattle.kept.specs.Kept.{is_kept, copy_line, kept_lines}
use Rattle.kept.proofs.Copying.{copy_size}
use Rattle.certificate.specs.Alike.{Alike}
use Rattle.certificate.proofs.KeptJoined.{IsKept, joined_kept}

module _ {n : ℕ} {lines : List ℕ} (sound : Sound n lines) (ranks : List ℕ) where
  -- by a kept line before place p
  abbrev Before : ℕ → ℕ → ℕ → Type 0
  Before p = Hop (network n lines) (λ q. (q < p) × IsKept ranks q)

  before_wider : {p u v : ℕ} → Before p u v → Before (suc p) u v
  before_wider {p} h = hop_map (λ q _ (k : (q < p) × IsKept ranks q). (omega arith, k.1)) h

  -- one place more: by an earlier line, or by the line at place p if it is kept
  before_more : {p u v : ℕ} → Before (suc p) u v → Before p u v ⊎ (IsKept ranks p × Joins (network n lines) p u v)
  before_more {p} {u} {v} (by q l (k, h) j) = go (ℕ_discrete q p)
    where
      go : Dec (q ≡ p) → Before p u v ⊎ (IsKept ranks p × Joins (network n lines) p u v)
      go (yes e) = inr (rw e at h, rw e at j)
      go (no o) = inl (by q l (omega arith, h) j)

  -- no earlier line has the ends of the line at place p
  fresh : (p : ℕ) → p < length lines / 2 → ¬ Before p (end_one lines p) (end_two lines p)
  fresh p l (by q lq (k, h) j) = let e : p ≡ q = sound.simple.once p q (end_one lines p) (end_two lines p) l lq (forth refl refl) j in omega arith

  copied : (p : ℕ) → p ≤ length lines / 2 → Neighbours n (up_to (copy_line lines ranks) [] p) (Before p)
  unfolding up_to copy_line
  copied zero l = neighbours_as (λ u v h. absurd h) (λ u v h. none h) neighbours_none
    where
      none : {u v : ℕ} → Before 0 u v → ⊥
      none (by q lq (k, h) j) = omega arith
  copied (suc p) l = go (is_kept ranks p) refl (up_to (copy_line lines ranks) [] p) (copied p (omega arith))
    where
      go : (b : Bool) → is_kept ranks p ≡ b → (old : List ℕ) → Neighbours n old (Before p)
          → Neighbours n (pick b (old ++ (end_one lines p ∷ (end_two lines p ∷ []))) old) (Before (suc p))
      go true e old S =
          let kept : IsKept ranks p = eqb-false (get_or ranks p 0) 0 (not-true (eqb (get_or ranks p 0) 0) e) in
          neighbours_as
          (λ u v h. elim h [ inl k ↦ before_wider k | inr j ↦ by p l (omega arith, kept) j ])
          (λ u v h. elim (before_more h) [ inl k ↦ inl k | inr m ↦ inr m.1 ])
          (neighbours_more S lines p sound.simple.proper l (fresh p l))
      go false e old S =
          let away : get_or ranks p 0 ≡ 0 = eqb-true (get_or ranks p 0) 0 (not-false (eqb (get_or ranks p 0) 0) e) in
          neighbours_as (λ u v h. before_wider h) (λ u v h. elim (before_more h) [ inl k ↦ k | inr m ↦ absurd (m.0 away) ]) S

  kept : Neighbours n (kept_lines lines ranks) (Before (length lines / 2))
  unfolding kept_lines
  kept = copied (length lines / 2) (omega arith)

  -- THEOREM. Two stations are neighbours in the kept lines exactly when a line of nonzero rank joins them.
  pub kept_hop : (u v : ℕ) → Hop (network n (kept_lines lines ranks)) Every u v ↔ Hop (network n lines) (λ p. IsKept ranks p) u v
  kept_hop u v = (
    λ h. hop_map (λ q _ (k : (q < length lines / 2) × IsKept ranks q). k.1) (kept.has u v h),
    λ h. kept.all u v (hop_map (λ q l (k : IsKept ranks q). (l, k)) h),
  )

  kept_length : length (kept_lines lines ranks) ≤ length lines
  unfolding kept_lines
  kept_length = omega (arith, copy_size lines ranks (length lines / 2), count_most (length lines / 2) (is_kept ranks))

  -- THEOREM. The kept lines are a sound list, so they can be pruned and united again.
  pub kept_sound : Sound n (kept_lines lines ranks)
  kept_sound =
      record {
        within = record { some = sound.within.some; most = sound.within.most; even = kept.even; few = omega (arith, kept_length, sound.within.few) };
        simple = kept.simple;
      }

-- THEOREM. The lines kept under a plan that meets the definition are alike at k to the whole list.
pub kept_alike : {n k : ℕ} {lines ranks orders : List ℕ} → Sound n lines → PlanMeets n k lines ranks orders → Alike n k lines (kept_lines lines ranks)
kept_alike {n} {k} {lines} {ranks} sound meets =
    record {
      same = λ away few u v _ _. (
        λ c. chain_map (λ u v h. (kept_hop sound ranks u v).1 h) (joined_kept sound meets away few c),
        λ c. chain_map (λ u v h. hop_map (λ p _ _. tt) ((kept_hop sound ranks u v).0 h)) c,
      );
    }
