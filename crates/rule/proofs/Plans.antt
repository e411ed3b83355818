-- What pruning makes: ranks of at most k, and for each round an order that has each station once.
-- Assumes nothing.
use Prim.Native.Nat.{ℕ, zero, suc, ◌+◌, ◌*◌, ◌/◌, ◌<◌, ◌≤◌}
use mathlib.Core.Path.{◌≡◌, refl, sym, ◌∙◌}
use mathlib.Core.List.{List, [], ◌++◌}
use native.Mathlib.Nat.{zero-mul}
use native.Mathlib.Decide.{ℕ_discrete}
use native.Mathlib.Numerals.{add-one}
use native.Mathlib.Omega.{arith}
use lib.ListN.{length, get_or, take, drop, replicate, length-append, length-drop, length-replicate}
use lib.Seq.{drop_at, take_all, take-append-le, drop-append-le}
use Rattle.laws.specs.Fold.{up_to}
use Rattle.laws.proofs.Lists.{part_next, part_fits, replicate_at}
use Rattle.network.specs.Orders.{EachOnce}
use Rattle.rule.specs.Rule.{one_round}
use Rattle.rule.proofs.Order.{round_each_once, round_ranked, round_size}
use Rattle.rule.specs.Rounds.{Rounds, rounds, next_round, all_rounds, pruned}

module _ (n : ℕ) (lines starts : List ℕ) (ranks : List ℕ) where
  -- after k rounds
  abbrev pub Done : ℕ → Rounds
  Done k = up_to (next_round n lines starts) (rounds ranks []) k

  pub ranked : ((p : ℕ) → get_or ranks p 0 ≤ 0) → (k : ℕ) → (p : ℕ) → get_or (Done k).ranks p 0 ≤ k
  unfolding up_to next_round
  ranked none zero p = none p
  ranked none (suc k) p =
      let below = ranked none k in
      let r = round_ranked n lines (k + 1) (get_or starts k 0) (Done k).ranks (λ q. omega (arith, below q)) p in
      omega (arith, r)

  pub sized : (k : ℕ) → length (Done k).ranks ≡ length ranks
  unfolding up_to next_round
  sized zero = refl
  sized (suc k) = round_size n lines (k + 1) (get_or starts k 0) (Done k).ranks ∙ sized k

  filled : (k : ℕ) → length (Done k).orders ≡ k * n
  unfolding up_to next_round
  filled zero = sym (zero-mul n)
  filled (suc k) =
      simp length-append (omega (arith, filled k, (round_each_once n lines (k + 1) (get_or starts k 0) (Done k).ranks).size, part_next k n, add_one_mul k n))
    where
      add_one_mul : (k n : ℕ) → (k + 1) * n ≡ suc k * n
      add_one_mul k n = rw (add-one k)

  -- the part of round i + 1 is its order
  pub part_is : (k i : ℕ) → i < k → take n (drop (i * n) (Done k).orders) ≡ (one_round n lines (i + 1) (get_or starts i 0) (Done i).ranks).order
  unfolding up_to next_round
  part_is zero i h = absurd (omega arith)
  part_is (suc k) i h = go (ℕ_discrete i k) (λ l. part_is k i l)
    where
      order : List ℕ
      order = (one_round n lines (k + 1) (get_or starts k 0) (Done k).ranks).order

      go : Dec (i ≡ k) → (i < k → take n (drop (i * n) (Done k).orders) ≡ (one_round n lines (i + 1) (get_or starts i 0) (Done i).ranks).order)
          → take n (drop (i * n) ((Done k).orders ++ order)) ≡ (one_round n lines (i + 1) (get_or starts i 0) (Done i).ranks).order
      go (yes e) ih =
          rw (
            e,
            drop_at (Done k).orders order (k * n) (filled k),
            take_all n order (omega (arith, (round_each_once n lines (k + 1) (get_or starts k 0) (Done k).ranks).size)),
          )
      go (no m) ih =
          let fits = part_fits i k n (omega arith) in
          rw (
            drop-append-le (i * n) (Done k).orders _ (omega (arith, filled k, fits)),
            take-append-le n (drop (i * n) (Done k).orders) _ (simp length-drop (omega (arith, filled k, fits))),
          )
          (ih (omega arith))

  part : (k i : ℕ) → i < k → EachOnce n (take n (drop (i * n) (Done k).orders))
  part k i h = rw (part_is k i h) (round_each_once n lines (i + 1) (get_or starts i 0) (Done i).ranks)

module _ (n k : ℕ) (lines starts : List ℕ) where
  -- THEOREM. There are m ranks, m the number of lines.
  pub pruned_size : length (pruned n k lines starts).ranks ≡ length lines / 2
  unfolding pruned all_rounds
  pruned_size = sized n lines starts (replicate (length lines / 2) 0) k ∙ length-replicate {A = ℕ} (length lines / 2) 0

  -- THEOREM. Every rank is at most k.
  pub pruned_ranks : (p : ℕ) → get_or (pruned n k lines starts).ranks p 0 ≤ k
  unfolding pruned all_rounds
  pruned_ranks = ranked n lines starts (replicate (length lines / 2) 0) (λ p. rw (replicate_at {A = ℕ} (length lines / 2) p 0) (omega arith)) k

  -- THEOREM. The orders are k times n numbers, and the n places of each round have each station once.
  pub pruned_filled : length (pruned n k lines starts).orders ≡ k * n
  unfolding pruned all_rounds
  pruned_filled = filled n lines starts (replicate (length lines / 2) 0) k

  pub pruned_orders : (i : ℕ) → i < k → EachOnce n (take n (drop (i * n) (pruned n k lines starts).orders))
  unfolding pruned all_rounds
  pruned_orders = part n lines starts (replicate (length lines / 2) 0) k
