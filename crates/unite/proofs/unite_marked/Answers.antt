-- `unite::unite_marked` meets its contract. The lines that are new are those that the first list lacks, and their count gives the union's
-- size before anything is written. Assumes nothing.
use Prim.Native.Nat.{◌+◌, ◌*◌, ◌/◌}
use mathlib.Core.Path.{◌≡◌, refl, ap, ◌∙◌}
use native.Mathlib.Omega.{arith}
use borrow.Author.Rules.{rules}
use borrow.Author.Tests.{lt-ltb, le-ltb}
use lib.ListN.{length}
use Rattle.laws.specs.Count.{count}
use Rattle.laws.proofs.Count.{count_most}
use Rattle.kinds.specs.Answers.{Answer.given}
use Rattle.limits.specs.Limits.{room_judged}
use Rattle.kept.specs.Kept.{after}
use Rattle.unite.specs.Adding.{is_new}
use Rattle.unite.specs.Union.{united, union_judged, union_short, size_answer}
use Rattle.unite.proofs.Adding.{new_count, united_size, united_front}
use Rattle.unite.proofs.unite_marked.Goals as goal
use Rattle.unite.proofs.unite_marked.Goals.{After-count_new}

-- how many lines are new
new : (c : After-count_new) → c.count_new.result ≡ count (length c.args.second.now / 2) (is_new c.args.again.now)
new c = c.count_new.ensures.count ∙ new_count c.args.again.now (length c.args.second.now / 2)

-- the size is the union's
whole : (c : After-count_new) → length (united c.args.first.now c.args.second.now) ≡ length c.args.first.now + 2 * c.count_new.result
whole c = rw (new c) (united_size c.args.again.now c.args.first.now c.args.second.now c.requires.2)

pub overflow_mul-size : goal.overflow_mul-size
overflow_mul-size c = omega (arith, new c, count_most (length c.args.second.now / 2) (is_new c.args.again.now))

pub overflow_add-size : goal.overflow_add-size
overflow_add-size c = omega (arith, new c, count_most (length c.args.second.now / 2) (is_new c.args.again.now))

pub returns-then-size-gt-MOST_NUMBERS-clause-answer : goal.returns-then-size-gt-MOST_NUMBERS-clause-answer
unfolding size_answer union_judged
returns-then-size-gt-MOST_NUMBERS-clause-answer c =
    let a = c.args in
    let size = whole (goal.at.returns-then-size-gt-MOST_NUMBERS-clause-answer c).After-count_new in
    rw (lt-ltb 16384 (length (united a.first.now a.second.now)) (omega (arith, size, c.if-size-gt-MOST_NUMBERS.true))) refl

pub returns-then-room-size-clause-answer : goal.returns-then-room-size-clause-answer
unfolding size_answer union_judged union_short room_judged
returns-then-room-size-clause-answer c =
    let a = c.args in
    let size = whole (goal.at.returns-then-room-size-clause-answer c).After-count_new in
    rw (
      le-ltb 16384 (length (united a.first.now a.second.now)) (omega (arith, size, c.if-size-gt-MOST_NUMBERS.false)),
      lt-ltb (length a.room.now) (length (united a.first.now a.second.now)) (omega (arith, size, c.if-room-size.true)),
    ) refl

pub put_lines-requires-clause-fits : goal.put_lines-requires-clause-fits
unfolding is_new
put_lines-requires-clause-fits c =
    (is_new c.args.again.now, record { says = λ place answer l e. search rules }, omega (arith, c.split_at_mut-front.ensures.back_len, new (goal.at.put_lines-requires-clause-fits c).After-count_new, c.if-room-size.false))

pub returns-clause-answer : goal.returns-clause-answer
unfolding size_answer union_judged union_short room_judged
returns-clause-answer c =
    let a = c.args in
    let size = whole (goal.at.returns-clause-answer c).After-count_new in
    rw (
      le-ltb 16384 (length (united a.first.now a.second.now)) (omega (arith, size, c.if-size-gt-MOST_NUMBERS.false)),
      le-ltb (length a.room.now) (length (united a.first.now a.second.now)) (omega (arith, size, c.if-room-size.false)),
    ) (ap given (omega (arith, size)))

pub returns-clause-room : goal.returns-clause-room
unfolding is_new after
returns-clause-room c =
    let a = c.args in
    let put = c.put_lines.ensures.put (is_new a.again.now) (record { says = λ place answer l e. search rules }) in
    rw (c.copy_list.ensures.copied, put, c.split_at_mut-front.ensures.back) (united_front a.again.now a.first.now a.second.now c.requires.2 a.room.now)
