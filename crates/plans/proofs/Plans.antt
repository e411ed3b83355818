-- THEOREMS. The check accepts just the plans that meet the published definition, and of any other it says the first fault.
-- Assumes nothing.
use Prim.Native.Nat.{ℕ, ◌+◌, ◌*◌, ◌/◌, ◌<◌, ◌≤◌}
use mathlib.Core.Path.{◌≡◌, sym, ap, ◌∙◌}
use mathlib.Core.Bool.{true≢false}
use mathlib.Core.List.{List}
use mathlib.Core.Logic.{◌⊎◌, ◌⊎◌.inl, ◌⊎◌.inr}
use native.Mathlib.Decide.{dec_le}
use native.Mathlib.Omega.{arith}
use lib.ListN.{length, get_or}
use Rattle.laws.proofs.Fold.{first_last, first_at}
use Rattle.network.specs.Faults.{Sound}
use Rattle.plans.specs.Verdicts.{Kind, Kind.A, Verdict, Verdict.accepted, Verdict.faulty, is_faulty}
use Rattle.plans.specs.Orders.{order_of}
use Rattle.plans.specs.Checking.{rank_verdict, ranks_verdict, round_verdict, plan_verdict, rounds_verdict}
use Rattle.plans.specs.Plans.{RoundMeets, PlanMeets}
use Rattle.plans.specs.Faults.{RoundFault, FirstFault, FirstFault.rank, FirstFault.round}
use Rattle.plans.proofs.Orders.{order_size}
use Rattle.plans.proofs.Greedy.{good_meets, meets_good}
use Rattle.plans.proofs.Faults.{rank_accepted, rank_faulty}
use Rattle.plans.proofs.Rounds.{all_or_first, RoundCases, round_cases, good_accepted, round_faulty}

-- ── a round ──

module _ (n : ℕ) (lines ranks : List ℕ) (i : ℕ) (order : List ℕ) (s : Sound n lines) where
  abbrev AnyFault : Type 0
  AnyFault = (kind : Kind) × (place : ℕ) × RoundFault n lines ranks i order kind place

  -- a round meets the definition, or has a first fault
  round_meets_or_not : length order ≡ n → RoundMeets n lines ranks i order ⊎ AnyFault
  round_meets_or_not size = go (round_cases n lines ranks i order s.simple.proper size)
    where
      go : RoundCases n lines ranks i order → RoundMeets n lines ranks i order ⊎ AnyFault
      go (inl G) = inl (good_meets n lines ranks i order s.simple G)
      go (inr f) = inr f

  -- THEOREM. A round is accepted just where it meets the definition.
  pub round_meets_accepted : RoundMeets n lines ranks i order → round_verdict n lines ranks i order ≡ accepted
  round_meets_accepted M = good_accepted n lines ranks i order s.simple.proper (meets_good n lines ranks i order s.simple M)

  pub round_accepted_meets : length order ≡ n → round_verdict n lines ranks i order ≡ accepted → RoundMeets n lines ranks i order
  round_accepted_meets size e = go (round_meets_or_not size)
    where
      go : RoundMeets n lines ranks i order ⊎ AnyFault → RoundMeets n lines ranks i order
      go (inl M) = M
      go (inr (kind, place, f)) = absurd (true≢false (ap is_faulty (sym (round_faulty n lines ranks i order s.simple.proper f) ∙ e)))

-- ── the plan ──

module _ (n k : ℕ) (lines ranks orders : List ℕ) where
  ranks_accepted : ((p : ℕ) → p < length lines / 2 → get_or ranks p 0 ≤ k) → ranks_verdict k lines ranks ≡ accepted
  unfolding ranks_verdict
  ranks_accepted most = first_last is_faulty (rank_verdict k ranks) accepted (length lines / 2) (λ p l. rw (rank_accepted k ranks p (most p l)))

  ranks_faulty : (p : ℕ) → p < length lines / 2 → ((q : ℕ) → q < p → get_or ranks q 0 ≤ k) → k < get_or ranks p 0 → ranks_verdict k lines ranks ≡ faulty 0 A p
  unfolding ranks_verdict
  ranks_faulty p l before h =
      first_at is_faulty (rank_verdict k ranks) accepted (length lines / 2) p l (rw (rank_faulty k ranks p h)) (λ q m. rw (rank_accepted k ranks q (before q m)))
      ∙ rank_faulty k ranks p h

  -- what is to be decided: a plan meets the definition, or has a first fault
  abbrev PlanCases : Type 0
  PlanCases = PlanMeets n k lines ranks orders ⊎ ((r : ℕ) × (kind : Kind) × (place : ℕ) × FirstFault n k lines ranks orders r kind place)

  module _ (s : Sound n lines) where
    -- what the check says of the round after i others
    abbrev said : ℕ → Verdict
    said i = round_verdict n lines ranks (i + 1) (order_of n orders i)

    rounds_accepted : ((i : ℕ) → i < k → RoundMeets n lines ranks (i + 1) (order_of n orders i)) → rounds_verdict n k lines ranks orders ≡ accepted
    unfolding rounds_verdict
    rounds_accepted meets = first_last is_faulty said accepted k (λ i l. rw (round_meets_accepted n lines ranks (i + 1) (order_of n orders i) s (meets i l)))

    rounds_faulty : {kind : Kind} {place : ℕ} (i : ℕ) → i < k → ((h : ℕ) → h < i → RoundMeets n lines ranks (h + 1) (order_of n orders h))
        → RoundFault n lines ranks (i + 1) (order_of n orders i) kind place → rounds_verdict n k lines ranks orders ≡ faulty (i + 1) kind place
    unfolding rounds_verdict
    rounds_faulty i l before f =
        let bad = round_faulty n lines ranks (i + 1) (order_of n orders i) s.simple.proper f in
        first_at is_faulty said accepted k i l (rw bad) (λ h m. rw (round_meets_accepted n lines ranks (h + 1) (order_of n orders h) s (before h m))) ∙ bad

    -- THEOREM. A plan that meets the definition is accepted.
    pub meets_accepted : PlanMeets n k lines ranks orders → plan_verdict n k lines ranks orders ≡ accepted
    unfolding plan_verdict
    meets_accepted M = rw (ranks_accepted M.ranks_most, rounds_accepted M.rounds)

    -- THEOREM. The first fault of a plan is what the check says of it.
    pub fault_faulty : {r : ℕ} {kind : Kind} {place : ℕ} → FirstFault n k lines ranks orders r kind place → plan_verdict n k lines ranks orders ≡ faulty r kind place
    unfolding plan_verdict
    fault_faulty (rank p l before h) = rw (ranks_faulty p l before h)
    fault_faulty (round most i l before f) = rw (ranks_accepted most, rounds_faulty i l before f)

    plan_cases : k * n ≤ length orders → PlanCases
    plan_cases room = in_ranks (all_or_first (λ p. get_or ranks p 0 ≤ k) (λ p. k < get_or ranks p 0) (length lines / 2) (λ p l. ranked p (dec_le (get_or ranks p 0) k)))
      where
        ranked : (p : ℕ) → Dec (get_or ranks p 0 ≤ k) → (get_or ranks p 0 ≤ k) ⊎ (k < get_or ranks p 0)
        ranked p (yes h) = inl h
        ranked p (no m) = inr (omega arith)

        in_rounds : ((p : ℕ) → p < length lines / 2 → get_or ranks p 0 ≤ k)
            → ((i : ℕ) → i < k → RoundMeets n lines ranks (i + 1) (order_of n orders i))
            ⊎ ((i : ℕ) × (i < k) × ((h : ℕ) → h < i → RoundMeets n lines ranks (h + 1) (order_of n orders h)) × AnyFault n lines ranks (i + 1) (order_of n orders i) s)
            → PlanCases
        in_rounds most (inl meets) = inl (record { ranks_most = most; rounds = meets })
        in_rounds most (inr (i, l, before, f)) = inr (i + 1, f.0, f.1, round most i l before f.2)

        in_ranks : ((p : ℕ) → p < length lines / 2 → get_or ranks p 0 ≤ k)
            ⊎ ((p : ℕ) × (p < length lines / 2) × ((q : ℕ) → q < p → get_or ranks q 0 ≤ k) × (k < get_or ranks p 0))
            → PlanCases
        in_ranks (inr (p, l, before, h)) = inr (0, A, p, rank p l before h)
        in_ranks (inl most) =
            in_rounds most
            (all_or_first (λ i. RoundMeets n lines ranks (i + 1) (order_of n orders i)) (λ i. AnyFault n lines ranks (i + 1) (order_of n orders i) s) k
            (λ i l. round_meets_or_not n lines ranks (i + 1) (order_of n orders i) s (order_size n k orders i room l)))

    -- THEOREM. What is accepted meets the definition.
    pub accepted_meets : k * n ≤ length orders → plan_verdict n k lines ranks orders ≡ accepted → PlanMeets n k lines ranks orders
    accepted_meets room e = go (plan_cases room)
      where
        go : PlanCases → PlanMeets n k lines ranks orders
        go (inl M) = M
        go (inr (r, kind, place, f)) = absurd (true≢false (ap is_faulty (sym (fault_faulty f) ∙ e)))

    -- THEOREM. A fault that the check says is the plan's first.
    pub faulty_fault : {r : ℕ} {kind : Kind} {place : ℕ} → k * n ≤ length orders → plan_verdict n k lines ranks orders ≡ faulty r kind place
        → FirstFault n k lines ranks orders r kind place
    faulty_fault {r} {kind} {place} room e = go (plan_cases room)
      where
        go : PlanCases → FirstFault n k lines ranks orders r kind place
        go (inl M) = absurd (true≢false (ap is_faulty (sym e ∙ meets_accepted M)))
        go (inr (r', kind', place', f)) =
            let same : faulty r' kind' place' ≡ faulty r kind place = sym (fault_faulty f) ∙ e in
            let x : r' ≡ r = cc in
            let y : kind' ≡ kind = cc in
            let z : place' ≡ place = cc in
            rw (x, y, z) at f
