-- How a call from C tells a refusal: no row's number is 0, so a call returns 0 just where no row holds. And demand 2 of the C face.
-- Assumes nothing.
use Prim.Native.Nat.{ℕ, ◌<◌, ◌≤◌}
use mathlib.Core.Path.{◌≡◌, refl, sym, ap}
use mathlib.Core.Logic.{◌↔◌}
use mathlib.Core.Bool.{Bool, true, false, true≢false}
use mathlib.Core.List.{List}
use native.Mathlib.Omega.{arith}
use borrow.Author.Tests.{ltb-false, le-ltb}
use lib.Dec.{ltb}
use lib.ListN.{length}
use Rattle.laws.proofs.Truth.{ltb_exactly}
use Rattle.kinds.specs.Answers.{Answer, Answer.given, Answer.refused, is_refused}
use Rattle.kinds.specs.Rows.{Rows, Row, Row.because, ◌then_try◌, ◌then_try◌.earlier, ◌then_try◌.later, EachOf, EachOf.at, Follows}
use Rattle.network.specs.Rows.{lines_rows, list_rows}
use Rattle.network.proofs.Rows.{list_follows}
use Rattle.kept.specs.Kept.{after}
use Rattle.kept.proofs.Rows.{copy_follows}
use Rattle.request.specs.Rows.{request_rows}
use Rattle.prune.specs.Pruning.{prune_answer}
use Rattle.rule.specs.Rounds.{pruned}
use Rattle.prune.specs.Answers.{PruneAllows}
use Rattle.prune.proofs.Rows.{prune_follows}
use Rattle.unite.specs.Rows.{union_rows}
use Rattle.unite.proofs.Rows.{union_follows}
use Rattle.plans.specs.Verdicts.{Kind, Kind.A, Kind.B, Kind.C, Kind.D, Kind.E, Verdict, Verdict.accepted, Verdict.faulty}
use Rattle.plans.specs.Checking.{check_answer}
use Rattle.plans.specs.Checkable.{Checkable}
use Rattle.plans.specs.Plans.{PlanMeets}
use Rattle.plans.specs.Rows.{check_rows}
use Rattle.plans.proofs.Rows.{check_follows}
use Rattle.plans.proofs.Answers.{check_accepts}
use Rattle.joined.specs.Rows.{joined_rows}
use Rattle.joined.proofs.Rows.{joined_follows}
use Rattle.weakness.specs.Rows.{weak_rows}
use Rattle.weakness.proofs.Rows.{weak_follows}
use Rattle.reading.specs.Rows.{record_rows, next_rows, end_rows, FileRows, FileRows.first as file_first, FileRows.next as file_next, FileRows.end as file_end}
use Rattle.reading.specs.declared.Order.{Order}
use Rattle.reading.proofs.Rows.{read_follows}
use Rattle.writing.proofs.Rows.{write_follows}
use Rattle.codes.specs.Codes.{number_said, letter_number, kind_said, written_number}
use Rattle.report.specs.Answers.{written_answer}
use Rattle.certificate.proofs.Calls.{pruned_checked}
use Rattle.tapuhzel.specs.Calls.{said, prune_call, check_call, text_call}
use Rattle.promises.specs.Allowed.{Tells}
use Rattle.promises.specs.Promises.{CSame, CFace}
use Rattle.std.specs.Prelude.{Ok}

-- ── no row's number is 0 ──

record Positive (rows : Rows) : Type 0 where
  some : {number place list : ℕ} → rows number place list → 1 ≤ number

row_positive : {holds : Type 0} {number place list : ℕ} → 1 ≤ number → Positive (Row holds number place list)
row_positive {holds} {number} {place} {list} h = record { some = λ r. go r }
  where
    go : {number' place' list' : ℕ} → Row holds number place list number' place' list' → 1 ≤ number'
    go (because x) = h

then_positive : {first next : Rows} → Positive first → Positive next → Positive (first then_try next)
then_positive {first} {next} p q = record { some = λ r. go r }
  where
    go : {number place list : ℕ} → (first then_try next) number place list → 1 ≤ number
    go (earlier r) = p.some r
    go (later none r) = q.some r

each_positive : {count : ℕ} {rows : ℕ → Rows} → ((index : ℕ) → Positive (rows index)) → Positive (EachOf count rows)
each_positive {count} {rows} p = record { some = λ r. go r }
  where
    go : {number place list : ℕ} → EachOf count rows number place list → 1 ≤ number
    go (at index h none r) = (p index).some r

-- ── what a call tells ──

-- The number, place and list of an answer that follows rows whose numbers are not 0.
tells : {A : Type 0} {answer : Answer A} {rows : Rows} → Follows answer rows → Positive rows → Tells (said answer) rows
tells {answer = given value} f p =
    record {
      zero = λ none. refl;
      row = λ r. absurd (given_row value (f.exactly.1 r));
      only = λ h. absurd (omega arith);
    }
  where
    given_row : {A : Type 0} (value : A) {number place list : ℕ} → ¬ (◌≡◌ {A = Answer A} (given value) (refused number place list))
    given_row value e = true≢false (sym (ap is_refused e))
tells {answer = refused number place list} f p =
    record {
      zero = λ none. absurd (none number place list (f.exactly.0 refl));
      row = λ r. (ap said (f.exactly.1 r), p.some r);
      only = λ h. f.exactly.0 refl;
    }

-- ── the rows of each routine ──

lines_positive : (list n : ℕ) (lines : List ℕ) → Positive (lines_rows list n lines)
lines_positive list n lines = each_positive (λ p. then_positive (row_positive (omega arith)) (then_positive (row_positive (omega arith)) (row_positive (omega arith))))

list_positive : (list n : ℕ) (lines : List ℕ) → Positive (list_rows list n lines)
list_positive list n lines = then_positive (row_positive (omega arith)) (then_positive (row_positive (omega arith)) (lines_positive list n lines))

request_positive : (n k : ℕ) (lines starts : List ℕ) (short : Type 0) → Positive (request_rows n k lines starts short)
request_positive n k lines starts short =
    then_positive
    (then_positive (row_positive (omega arith))
    (then_positive (row_positive (omega arith)) (then_positive (row_positive (omega arith)) (then_positive (row_positive (omega arith)) (row_positive (omega arith))))))
    (then_positive (lines_positive 0 n lines) (each_positive (λ index. row_positive (omega arith))))

check_positive : (n k : ℕ) (lines ranks orders : List ℕ) → Positive (check_rows n k lines ranks orders)
check_positive n k lines ranks orders =
    then_positive (row_positive (omega arith))
    (then_positive (row_positive (omega arith)) (then_positive (row_positive (omega arith)) (then_positive (row_positive (omega arith)) (lines_positive 0 n lines))))

union_positive : (n : ℕ) (first second : List ℕ) (room : ℕ) → Positive (union_rows n first second room)
union_positive n first second room =
    then_positive
    (then_positive (row_positive (omega arith))
    (then_positive (row_positive (omega arith)) (then_positive (row_positive (omega arith)) (then_positive (lines_positive 1 n first) (lines_positive 2 n second)))))
    (then_positive (row_positive (omega arith)) (row_positive (omega arith)))

joined_positive : (n : ℕ) (lines away : List ℕ) (a b : ℕ) → Positive (joined_rows n lines away a b)
joined_positive n lines away a b =
    then_positive (list_positive 0 n lines) (then_positive (each_positive (λ j. row_positive (omega arith))) (then_positive (row_positive (omega arith)) (row_positive (omega arith))))

weak_positive : (n k : ℕ) (lines : List ℕ) → Positive (weak_rows n k lines)
weak_positive n k lines =
    then_positive (row_positive (omega arith)) (then_positive (row_positive (omega arith)) (then_positive (row_positive (omega arith)) (lines_positive 0 n lines)))

record_positive : (order : Order) (bytes : List ℕ) (offset : ℕ) → Positive (record_rows order bytes offset)
record_positive order bytes offset = then_positive (row_positive (omega arith)) (then_positive (row_positive (omega arith)) (row_positive (omega arith)))

next_positive : (bytes : List ℕ) (m s : ℕ) → Positive (next_rows bytes m s)
next_positive bytes m s = then_positive (record_positive _ bytes _) (then_positive (row_positive (omega arith)) (row_positive (omega arith)))

end_positive : (bytes : List ℕ) (m s : ℕ) → Positive (end_rows bytes m s)
end_positive bytes m s = then_positive (row_positive (omega arith)) (row_positive (omega arith))

file_positive : (bytes : List ℕ) → Positive (FileRows bytes)
file_positive bytes = record { some = λ r. go r }
  where
    go : {number place list : ℕ} → FileRows bytes number place list → 1 ≤ number
    go (file_first r) = (record_positive _ bytes _).some r
    go (file_next m s reached r) = (next_positive bytes m s).some r
    go (file_end m s reached none is r) = (end_positive bytes m s).some r

-- ── demand 2 of the C face ──

module _ (n k : ℕ) (lines ranks orders : List ℕ) where
  -- a verdict whose codes are all 0 is that the plan is accepted
  zeros_accepted : (answer : Answer Verdict) → check_answer n k lines ranks orders ≡ answer → number_said answer ≡ 0 → kind_said answer ≡ 0 → answer ≡ given accepted
  zeros_accepted (given accepted) is x y = refl
  zeros_accepted (given (faulty round kind place)) is x y = absurd (no_letter kind y)
    where
      no_letter : (kind : Kind) → ¬ (letter_number kind ≡ 0)
      no_letter A e = omega arith
      no_letter B e = omega arith
      no_letter C e = omega arith
      no_letter D e = omega arith
      no_letter E e = omega arith
  zeros_accepted (refused number place list) is x y = absurd (omega (arith, (check_positive n k lines ranks orders).some ((check_follows n k lines ranks orders).exactly.0 is)))

  c_yes : (check_call n k lines ranks orders ≡ ((0, 0, 0), 0, 0, 0)) ↔ (Checkable n k lines ranks orders × PlanMeets n k lines ranks orders)
  c_yes = (
    λ e. (check_accepts n k lines ranks orders).0 (zeros_accepted (check_answer n k lines ranks orders) refl (ap (λ (c : (ℕ × ℕ × ℕ) × ℕ × ℕ × ℕ). c.0.0) e) (ap (λ (c : (ℕ × ℕ × ℕ) × ℕ × ℕ × ℕ). c.1) e)),
    λ m. rw ((check_accepts n k lines ranks orders).1 m),
  )

c_ours : (n k : ℕ) (lines starts ranks orders : List ℕ) {place list kept : ℕ} {ranks' orders' : List ℕ}
    → prune_call n k lines starts ranks orders ≡ ((0, place, list), kept, ranks', orders') → check_call n k lines ranks' orders' ≡ ((0, 0, 0), 0, 0, 0)
c_ours n k lines starts ranks orders {place} {list} {kept} {ranks'} {orders'} e = go (prune_answer n k lines starts (length ranks) (length orders)) refl
    (ap (λ (c : (ℕ × ℕ × ℕ) × ℕ × List ℕ × List ℕ). c.0.0) e)
    (ap (λ (c : (ℕ × ℕ × ℕ) × ℕ × List ℕ × List ℕ). c.2) e)
    (ap (λ (c : (ℕ × ℕ × ℕ) × ℕ × List ℕ × List ℕ). c.3) e)
  where
    go : (answer : Answer ℕ) → prune_answer n k lines starts (length ranks) (length orders) ≡ answer → number_said answer ≡ 0
        → after answer (pruned n k lines starts).ranks ranks ≡ ranks' → after answer (pruned n k lines starts).orders orders ≡ orders'
        → check_call n k lines ranks' orders' ≡ ((0, 0, 0), 0, 0, 0)
    go (given count) is zero r o =
        let call : PruneAllows n k lines starts ranks orders (Ok count) ranks' orders' = record { answer = sym is; new_ranks = sym r; new_orders = sym o } in
        rw (pruned_checked call)
    go (refused number place' list') is zero r o =
        absurd (omega (arith, (request_positive n k lines starts _).some ((prune_follows n k lines starts (length ranks) (length orders)).exactly.0 is)))

text_five : (room : ℕ) (output text : List ℕ) → ((text_call room output text).0 ≡ 5) ↔ (length text < room)
text_five room output text = (λ e. (ltb_exactly (length text) room).0 (go (ltb (length text) room) e), λ h. rw ((ltb_exactly (length text) room).1 h))
  where
    go : (short : Bool) → written_number (written_answer short output) ≡ 5 → short ≡ true
    go true e = refl
    go false e = absurd (omega arith)

text_zero : (room : ℕ) (output text : List ℕ) → ((text_call room output text).0 ≡ 0) ↔ (room ≤ length text)
text_zero room output text = (λ e. ltb-false (length text) room (go (ltb (length text) room) e), λ h. rw (le-ltb (length text) room h))
  where
    go : (short : Bool) → written_number (written_answer short output) ≡ 0 → short ≡ false
    go true e = absurd (omega arith)
    go false e = refl

-- THEOREM. What a call from C leaves is what the routine answers and leaves, in codes.
pub c_same : CSame
c_same =
    record {
      judge = λ call. rw call.answer;
      prune = λ call. rw (call.new_ranks, call.new_orders, call.answer);
      check = λ call. rw call.answer;
      copy = λ call. rw (call.new_room, call.answer);
      unite = λ call. rw (call.new_room, call.answer);
      ask = λ call. rw call.answer;
      search_for_weak_spot = λ call. rw call.answer;
      read = λ call. rw (call.new_lines, call.new_starts, call.answer);
      write = λ call. rw (call.new_bytes, call.answer);
      write_text = λ call. rw (call.answer, call.new_text);
    }

-- THEOREM. The C face keeps what is promised of it.
pub c_face : CFace
c_face =
    record {
      judge = λ n lines. tells (list_follows 0 n lines) (list_positive 0 n lines);
      prune = λ n k lines starts ranks orders. tells (prune_follows n k lines starts (length ranks) (length orders)) (request_positive n k lines starts _);
      check = λ n k lines ranks orders. tells (check_follows n k lines ranks orders) (check_positive n k lines ranks orders);
      copy = λ lines ranks room. tells (copy_follows lines ranks (length room)) (then_positive (row_positive (omega arith)) (row_positive (omega arith)));
      unite = λ n first second room. tells (union_follows n first second (length room)) (union_positive n first second (length room));
      ask = λ n lines away a b. tells (joined_follows n lines away a b) (joined_positive n lines away a b);
      search_for_weak_spot = λ n k lines. tells (weak_follows n k lines) (weak_positive n k lines);
      read = λ bytes lines starts. tells (read_follows bytes lines starts) (then_positive (row_positive (omega arith)) (file_positive bytes));
      write = λ n k lines starts bytes. tells (write_follows n k lines starts bytes) (request_positive n k lines starts _);
      text_refused = text_five;
      text_given = text_zero;
      yes_exactly = c_yes;
      ours_among_them = c_ours;
    }
