-- The contracts of one equation, as the routines have them, each as a record of what a call may answer; the others are records already, cited by the
-- routines themselves. What a call of pruning that is not refused leaves behind; and how a call from C tells a refusal.
-- Assumes nothing.
use Rattle.std.specs.Prelude.{ℕ, ◌+◌, ◌*◌, ◌/◌, ◌<◌, ◌≤◌, ◌≡◌, List, length, get_or, take, drop, replicate, Result, Option, Bool}
use Rattle.kinds.specs.Answers.{answer_of}
use Rattle.kinds.specs.Rows.{Rows, NoneOf}
use Rattle.network.specs.Judging.{list_judged}
use Rattle.network.specs.Orders.{EachOnce}
use Rattle.rule.specs.Rule.{one_round}
use Rattle.kept.specs.Kept.{kept_of}
use Rattle.rule.specs.Rounds.{pruned}
use Rattle.plans.specs.Orders.{order_of}
use Rattle.plans.specs.Checking.{check_answer}
use Rattle.forests.specs.Answers.{checked_answer}
use Rattle.joined.specs.Asking.{joined_answer}
use Rattle.weakness.specs.Search.{weak_answer}
use Rattle.weakness.specs.Answers.{searched_answer}
use Rattle.kinds.specs.declared.Refusal.{Refusal}
use Rattle.entries.specs.declared.Verdict.{Verdict}
use Rattle.parting.specs.declared.WeakSpot.{WeakSpot}

-- `judging::judge`.
pub record JudgeAllows (n : ℕ) (lines : List ℕ) (said : Result (Unit {0}) Refusal) : Type 0 where
  pub answer : answer_of said ≡ list_judged 0 n lines

-- `forests::check`.
pub record CheckAllows (n k : ℕ) (lines ranks orders : List ℕ) (said : Result Verdict Refusal) : Type 0 where
  pub answer : checked_answer said ≡ check_answer n k lines ranks orders

-- `joined::joined`.
pub record JoinedAllows (n : ℕ) (lines away : List ℕ) (a b : ℕ) (said : Result Bool Refusal) : Type 0 where
  pub answer : answer_of said ≡ joined_answer n lines away a b

-- `weakness::find_weak_spot`.
pub record SearchAllows (n k : ℕ) (lines : List ℕ) (said : Result (Option WeakSpot) Refusal) : Type 0 where
  pub answer : searched_answer said ≡ weak_answer n k lines

-- What pruning leaves: of m lines, m ranks; k orders of n entries; the count of kept lines; and later places as they were. No line has a rank before
-- the first round; the round after i others is one round of the rule, from its own starting station.
pub record ByTheRule (n k : ℕ) (lines starts ranks orders : List ℕ) (count : ℕ) (ranks' orders' : List ℕ) : Type 0 where
  pub line_rounds : take (length lines / 2) ranks' ≡ (pruned n k lines starts).ranks
  pub scan_orders : take (k * n) orders' ≡ (pruned n k lines starts).orders
  pub no_round : (pruned n 0 lines starts).ranks ≡ replicate (length lines / 2) 0
  pub each_line : (i : ℕ) → i < k → (pruned n (i + 1) lines starts).ranks ≡ (one_round n lines (i + 1) (get_or starts i 0) (pruned n i lines starts).ranks).ranks
  pub each_order : (i : ℕ) → i < k → order_of n orders' i ≡ (one_round n lines (i + 1) (get_or starts i 0) (pruned n i lines starts).ranks).order
  pub each_station : (i : ℕ) → i < k → EachOnce n (order_of n orders' i)
  pub ranks_most : (p : ℕ) → p < length lines / 2 → get_or ranks' p 0 ≤ k
  pub counted : count ≡ kept_of lines ranks'
  pub later_ranks : drop (length lines / 2) ranks' ≡ drop (length lines / 2) ranks
  pub later_orders : drop (k * n) orders' ≡ drop (k * n) orders

-- "Writes from the front of its buffers what is stated and leaves later places untouched".
pub record Front (new room room' : List ℕ) : Type 0 where
  pub written : take (length new) room' ≡ new
  pub later : drop (length new) room' ≡ drop (length new) room

-- A call's number, place and list tell its rows: three zeros where none holds, else the first that does, whose number is not 0.
pub record Tells (said : ℕ × ℕ × ℕ) (rows : Rows) : Type 0 where
  pub zero : NoneOf rows → said ≡ (0, 0, 0)
  pub row : {number place list : ℕ} → rows number place list → (said ≡ (number, place, list)) × (1 ≤ number)
  pub only : 1 ≤ said.0 → rows said.0 said.1 said.2
