-- The promises of a routine's answer, from the theorems about the definition that its contract names.
-- Assumes nothing.
use Prim.Native.Nat.{ℕ, ◌/◌, ◌<◌}
use mathlib.Core.Path.{◌≡◌, refl, sym, ap, ◌∙◌}
use mathlib.Core.Logic.{◌↔◌}
use mathlib.Core.Bool.{Bool, true, false}
use mathlib.Core.List.{List, []}
use native.Mathlib.Omega.{arith}
use lib.ListN.{length, get_or, take, drop, replicate}
use lib.Seq.{get_or-take}
use lib.Dec.{ltb}
use Rattle.kinds.specs.Answers.{Answer.given, is_refused, answer_of}
use Rattle.network.specs.Faults.{Sound}
use Rattle.network.proofs.Sound.{taken_sound, sound_taken}
use Rattle.network.proofs.Determined.{judge_once}
use Rattle.pieces.specs.Away.{is_away}
use Rattle.pieces.specs.Joined.{Joined}
use Rattle.laws.specs.Fold.{up_to}
use Rattle.laws.proofs.Fold.{up_to_more}
use Rattle.kept.specs.Kept.{kept_of, after}
use Rattle.kept.proofs.After.{front_written, later_written}
use Rattle.kept.proofs.Copying.{count_front}
use Rattle.rule.specs.Rounds.{Rounds, rounds, next_round, all_rounds, pruned}
use Rattle.prune.specs.Answers.{PruneAllows}
use Rattle.rule.proofs.Plans.{part_is, pruned_size, pruned_ranks, pruned_filled, pruned_orders}
use Rattle.prune.proofs.Answers.{given_request}
use Rattle.plans.specs.Verdicts.{Kind, Verdict.faulty}
use Rattle.plans.specs.Plans.{PlanMeets}
use Rattle.plans.specs.Checkable.{Checkable}
use Rattle.plans.specs.Faults.{FirstFault}
use Rattle.plans.specs.Orders.{order_of}
use Rattle.plans.proofs.Answers.{check_accepts, check_faults}
use Rattle.plans.proofs.Front.{same_order}
use Rattle.forests.specs.Answers.{checked_answer}
use Rattle.forests.proofs.Determined.{check_once}
use Rattle.joined.specs.Rising.{Question}
use Rattle.joined.proofs.Right.{taken_question, question_answered, joined_answer_right}
use Rattle.joined.proofs.Determined.{joined_once}
use Rattle.parting.specs.Answers.{spot_stations}
use Rattle.parting.specs.declared.WeakSpot.{WeakSpot}
use Rattle.weakness.specs.Spots.{Searchable, StandsAt, IsWeakSpot}
use Rattle.weakness.proofs.Answers.{search_stands, search_weak}
use Rattle.weakness.proofs.Determined.{search_once}
use Rattle.report.specs.Answers.{written_answer, written_over}
use Rattle.programs.specs.Texts.{TextAllows}
use Rattle.certificate.proofs.Calls.{pruned_checked}
use Rattle.promises.specs.Allowed.{JudgeAllows, CheckAllows, JoinedAllows, SearchAllows, ByTheRule}
use Rattle.std.specs.Prelude.{Result, Ok, Err, Option, Some, None}
use Rattle.kinds.specs.declared.Refusal.{Refusal}
use Rattle.entries.specs.declared.Verdict.{Verdict}
use Rattle.entries.specs.declared.Verdict.TheVariants.{Accepted}

-- A list is taken exactly where it is sound.
pub judged_sound : {n : ℕ} {lines : List ℕ} {said : Result (Unit {0}) Refusal} → JudgeAllows n lines said → (said ≡ Ok tt) ↔ Sound n lines
judged_sound {n} {lines} {said} call = (
  λ e. taken_sound 0 n lines (sym call.answer ∙ rw e),
  λ s. judge_once 0 n lines {r = said} {s = Ok tt} call.answer (sym (sound_taken 0 n lines s)),
)

-- Pruning that is not refused leaves what the rule gives.
pub pruned_by_the_rule : {n k count : ℕ} {lines starts ranks orders ranks' orders' : List ℕ} → PruneAllows n k lines starts ranks orders (Ok count) ranks' orders'
    → ByTheRule n k lines starts ranks orders count ranks' orders'
unfolding after order_of pruned all_rounds next_round up_to
pruned_by_the_rule {n} {k} {count} {lines} {starts} {ranks} {orders} {ranks'} {orders'} call =
    record {
      line_rounds = front;
      scan_orders = front_written orders e call.new_orders (pruned_filled n k lines starts);
      no_round = refl;
      each_line = λ i l. ap (λ (t : Rounds). t.ranks) (up_to_more (next_round n lines starts) (rounds (replicate (length lines / 2) 0) []) i);
      each_order = λ i l. order_is i l ∙ part_is n lines starts (replicate (length lines / 2) 0) k i l;
      each_station = λ i l. rw (order_is i l) (pruned_orders n k lines starts i l);
      ranks_most = λ p l. rw (rank_is p l) (pruned_ranks n k lines starts p);
      counted = sym (ap (kept_of lines) call.new_ranks ∙ (count_front lines P (drop (length P) ranks) (pruned_size n k lines starts) ∙ (given_request n k lines starts (length ranks) (length orders) (sym call.answer)).1));
      later_ranks = later_written (pruned n k lines starts).ranks ranks e call.new_ranks (pruned_size n k lines starts);
      later_orders = later_written (pruned n k lines starts).orders orders e call.new_orders (pruned_filled n k lines starts);
    }
  where
    P : List ℕ
    P = (pruned n k lines starts).ranks

    e : ◌≡◌ (given count) (given count)
    e = refl

    front : take (length lines / 2) ranks' ≡ (pruned n k lines starts).ranks
    front = front_written ranks e call.new_ranks (pruned_size n k lines starts)

    rank_is : (p : ℕ) → p < length lines / 2 → get_or ranks' p 0 ≡ get_or (pruned n k lines starts).ranks p 0
    rank_is p l = sym (get_or-take (length lines / 2) ranks' p 0 l) ∙ rw front

    order_is : (i : ℕ) → i < k → order_of n orders' i ≡ order_of n (pruned n k lines starts).orders i
    order_is i l =
        let P = (pruned n k lines starts).orders in
        rw call.new_orders (same_order n k [] [] P [] (drop (length P) orders) (omega arith) (omega (arith, pruned_filled n k lines starts)) i l)

-- The check says yes exactly where the plan meets the definition, and names a fault exactly where it is the first.
module _ {n k : ℕ} {lines ranks orders : List ℕ} {said : Result Verdict Refusal} (call : CheckAllows n k lines ranks orders said) where
  pub checked_yes : (said ≡ Ok Accepted) ↔ (Checkable n k lines ranks orders × PlanMeets n k lines ranks orders)
  checked_yes = (
    λ e. (check_accepts n k lines ranks orders).0 (sym call.answer ∙ rw e),
    λ m. check_once n k lines ranks orders {r = said} {s = Ok Accepted} call.answer (sym ((check_accepts n k lines ranks orders).1 m)),
  )

  pub checked_fault : (round : ℕ) (kind : Kind) (place : ℕ)
      → (checked_answer said ≡ given (faulty round kind place)) ↔ (Checkable n k lines ranks orders × FirstFault n k lines ranks orders round kind place)
  checked_fault round kind place = (
    λ e. (check_faults n k lines ranks orders).0 (sym call.answer ∙ e),
    λ m. call.answer ∙ (check_faults n k lines ranks orders).1 m,
  )

-- What pruning leaves, the check accepts.
pub pruned_then_checked : {n k count : ℕ} {lines starts ranks orders ranks' orders' : List ℕ} {said : Result Verdict Refusal}
    → PruneAllows n k lines starts ranks orders (Ok count) ranks' orders' → CheckAllows n k lines ranks' orders' said → said ≡ Ok Accepted
pruned_then_checked {n} {k} {lines = lines} {ranks' = ranks'} {orders'} {said} prunes checks =
    check_once n k lines ranks' orders' {r = said} {s = Ok Accepted} checks.answer (sym (pruned_checked prunes))

-- Two stations are said to be joined, or apart, exactly where they are and the question can be asked.
module _ {n : ℕ} {lines away : List ℕ} {a b : ℕ} {said : Result Bool Refusal} (call : JoinedAllows n lines away a b said) where
  pub said_joined : (said ≡ Ok true) ↔ (Question n lines away a b × Joined n lines (is_away away) a b)
  said_joined = (
    λ e. let f = sym call.answer ∙ ap answer_of e in (taken_question n lines away a b (ap is_refused f), (joined_answer_right n lines away a b).true_joined f),
    λ (q : Question n lines away a b × Joined n lines (is_away away) a b).
        joined_once n lines away a b {r = said} {s = Ok true} call.answer
        (sym ((joined_answer_right n lines away a b).joined_true (ap is_refused (question_answered n lines away a b q.0)) q.1)),
  )

  pub said_apart : (said ≡ Ok false) ↔ (Question n lines away a b × (¬ Joined n lines (is_away away) a b))
  said_apart = (
    λ e. let f = sym call.answer ∙ ap answer_of e in (taken_question n lines away a b (ap is_refused f), (joined_answer_right n lines away a b).false_apart f),
    λ (q : Question n lines away a b × (¬ Joined n lines (is_away away) a b)).
        joined_once n lines away a b {r = said} {s = Ok false} call.answer
        (sym ((joined_answer_right n lines away a b).apart_false (ap is_refused (question_answered n lines away a b q.0)) q.1)),
  )

-- A network is said to stand, or its weak spot, exactly where that is so and it can be searched.
module _ {n k : ℕ} {lines : List ℕ} {said : Result (Option WeakSpot) Refusal} (call : SearchAllows n k lines said) where
  pub said_stands : (said ≡ Ok None) ↔ (Searchable n k lines × StandsAt n k lines)
  said_stands = (
    λ e. (search_stands n k lines).0 (sym call.answer ∙ rw e),
    λ s. search_once n k lines {r = said} {s = Ok None} call.answer (sym ((search_stands n k lines).1 s)),
  )

  pub said_weak : {w : WeakSpot} → (said ≡ Ok (Some w)) ↔ (Searchable n k lines × IsWeakSpot n k lines (spot_stations w.spot) w.one.0 w.two.0)
  said_weak {w} = (
    λ e. (search_weak n k lines).0 (sym call.answer ∙ rw e),
    λ s. search_once n k lines {r = said} {s = Ok (Some w)} call.answer (sym ((search_weak n k lines).1 s)),
  )

-- A text's buffer that is too short stays as it was.
pub text_refused : {room : ℕ} {output text text' : List ℕ} → TextAllows room output text (Err (record {})) text' → text' ≡ text
text_refused {room} {output} {text} {text'} call = go (ltb (length text) room) call.answer call.new_text
  where
    go : (short : Bool) → Err (record {}) ≡ written_answer short output → text' ≡ written_over short output text → text' ≡ text
    go true e w = w
    go false e w = cc
