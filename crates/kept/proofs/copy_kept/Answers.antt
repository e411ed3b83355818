-- `kept::copy_kept` meets its contract. The ranks choose the kept lines, and these just fill the front of the room. Assumes nothing.
use Prim.Native.Nat.{◌*◌, ◌/◌, ◌≤◌}
use mathlib.Core.Path.{◌≡◌, sym, ap}
use mathlib.Core.Bool.{false}
use native.Mathlib.Omega.{arith}
use borrow.Author.Rules.{rules}
use borrow.Author.Tests.{le-ltb}
use lib.ListN.{length, take}
use lib.Seq.{length-take-le}
use lib.Dec.{ltb}
use Rattle.kinds.specs.Answers.{Answer.given, taken, is_refused}
use Rattle.limits.specs.Limits.{length_judged, room_judged}
use Rattle.limits.proofs.Limits.{length_good}
use Rattle.kept.specs.Kept.{is_kept, chosen_lines, copy_line, kept_lines, kept_of, copy_answer, after}
use Rattle.kept.proofs.Copying.{kept_length}
use Rattle.kept.proofs.copy_kept.Goals as goal
use Rattle.kept.proofs.copy_kept.Goals.{After-count_of-kept}

-- the kept lines just fill the front of the room that they need
fills : (c : After-count_of-kept) → length c.args.lines.now / 2 ≤ length c.args.ranks.now → c.count_of-kept.result ≤ length c.args.room.now / 2
    → 2 * kept_of c.args.lines.now c.args.ranks.now ≡ length (take (2 * c.count_of-kept.result) c.args.room.now)
fills c ranks room = omega (arith, c.count_of-kept.ensures.count ranks, length-take-le (2 * c.count_of-kept.result) c.args.room.now (omega (arith, room)))

pub count_of-kept-requires : goal.count_of-kept-requires
count_of-kept-requires c = (length_good 0 c.args.lines.now (ap is_refused (sym c.in_ok-judge_length.ensures.answer))).1

pub pack_lines-requires-clause-few : goal.pack_lines-requires-clause-few
pack_lines-requires-clause-few c = (length_good 0 c.args.lines.now (ap is_refused (sym c.in_ok-judge_length.ensures.answer))).1

pub pack_lines-requires-clause-fits : goal.pack_lines-requires-clause-fits
unfolding kept_of
pack_lines-requires-clause-fits c =
    (is_kept c.args.ranks.now, record { says = λ place answer l e. search rules }, fills (goal.at.pack_lines-requires-clause-fits c).After-count_of-kept c.if-ranks-lines.false c.if-room-kept.false)

pub returns : goal.returns
unfolding copy_answer after room_judged kept_lines copy_line chosen_lines kept_of
returns c =
    let a = c.args in
    let put : c.pack_lines.new.room ≡ kept_lines a.lines.now a.ranks.now = c.pack_lines.ensures.put (is_kept a.ranks.now) (record { says = λ place answer l e. search rules })
    (fills (goal.at.returns c).After-count_of-kept c.if-ranks-lines.false c.if-room-kept.false) in
    let size : length (kept_lines a.lines.now a.ranks.now) ≡ 2 * c.count_of-kept.result = omega (arith, kept_length a.lines.now a.ranks.now, c.count_of-kept.ensures.count c.if-ranks-lines.false) in
    let e : length_judged 0 a.lines.now ≡ taken = sym c.in_ok-judge_length.ensures.answer in
    let room : ltb (length a.room.now) (2 * kept_of a.lines.now a.ranks.now) ≡ false = le-ltb (length a.room.now) (2 * kept_of a.lines.now a.ranks.now) (omega (arith, c.count_of-kept.ensures.count c.if-ranks-lines.false, c.if-room-kept.false)) in
    record {
      allowed = record {
        answer = rw (e, le-ltb _ _ c.if-ranks-lines.false, room) (ap given (c.count_of-kept.ensures.count c.if-ranks-lines.false));
        new_room = rw (put, sym size);
      };
    }
