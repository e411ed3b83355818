-- One round more: the ranks, and the orders, which grow by the round's order where its part of them is lent.
-- Assumes nothing.
use Prim.Native.Nat.{ℕ, ◌+◌, ◌-◌}
use mathlib.Core.Path.{◌≡◌, ap, ◌∙◌}
use mathlib.Core.List.{List, ◌++◌}
use native.Mathlib.Omega.{arith}
use lib.ListN.{length, get_or, take, drop, length-append}
use Rattle.laws.proofs.Lists.{part_back}
use Rattle.rule.specs.Rule.{one_round}
use Rattle.rule.specs.Rounds.{Rounds, next_round}

pub record OneMore (n : ℕ) (lines starts : List ℕ) (i at : ℕ) (s : Rounds) (d orders r part : List ℕ) : Type 0 where
  pub longer : length (next_round n lines starts i s).orders ≡ at + n
  pub filled : take at orders ++ (part ++ drop (at + n - at) (drop at orders)) ≡ (next_round n lines starts i s).orders ++ drop (at + n) d
  pub ranked : r ≡ (next_round n lines starts i s).ranks

-- The ranks after one round more, whose order goes wherever it is lent room.
pub ranks_more : (n : ℕ) (lines starts : List ℕ) (i : ℕ) (s : Rounds) (ranks : List ℕ) {r : List ℕ}
    → ranks ≡ s.ranks → r ≡ (one_round n lines (i + 1) (get_or starts i 0) ranks).ranks → r ≡ (next_round n lines starts i s).ranks
unfolding next_round
ranks_more n lines starts i s ranks er e = e ∙ ap (λ (x : List ℕ). (one_round n lines (i + 1) (get_or starts i 0) x).ranks) er

-- `orders` was filled with the orders of s, from the front of d; the round left r in the ranks and `part` in its part.
pub one_more : (n : ℕ) (lines starts : List ℕ) (i at : ℕ) (s : Rounds) (d ranks orders r part : List ℕ)
    → length s.orders ≡ at → orders ≡ s.orders ++ drop at d → ranks ≡ s.ranks
    → r ≡ (one_round n lines (i + 1) (get_or starts i 0) ranks).ranks → part ≡ (one_round n lines (i + 1) (get_or starts i 0) ranks).order → length part ≡ n
    → OneMore n lines starts i at s d orders r part
unfolding next_round
one_more n lines starts i at s d ranks orders r part el eo er e1 e2 ep =
    let y : part ≡ (one_round n lines (i + 1) (get_or starts i 0) s.ranks).order = e2 ∙ ap (λ (x : List ℕ). (one_round n lines (i + 1) (get_or starts i 0) x).order) er in
    record {
      longer = rw (← y) (simp length-append (omega arith));
      filled = rw (eo, ← y) (part_back s.orders d part at n el);
      ranked = ranks_more n lines starts i s ranks er e1;
    }
