-- `kept::pack_lines` meets its contract: a room that the chosen lines just fill has place for two numbers more as long as it is not full.
-- Assumes nothing.
use Prim.Native.Nat.{◌+◌, ◌/◌, ◌≤◌}
use mathlib.Core.Path.{◌≡◌, sym, ap, ◌∙◌}
use native.Mathlib.Omega.{arith}
use lib.ListN.{length, length-set}
use Rattle.network.specs.Lines.{end_one, end_two}
use Rattle.kept.specs.Kept.{chosen_lines}
use Rattle.kept.proofs.Copying.{put_size}
use Rattle.kept.proofs.Packing.{pack_none, pack_step, pack_rest, pack_all}
use Rattle.kept.proofs.pack_lines.Goals as goal
use Rattle.kept.proofs.pack_lines.Goals.{After-line_at-ends}

-- the two places of the next line, as long as the room is not full
left : (g : _) (c : After-line_at-ends g) → c.loop-place.at + 2 ≤ length c.loop-place.room
left g c =
    let (test, says, fits) = c.requires.fits in
    let (ends, most, fronted) = c.loop-place.invariant in
    let size = (fronted test says fits).size in
    omega (arith, c.if-room-at.false, c.loop-place.auto.room, fits, size, put_size test c.args.lines.now c.loop-place.place-iterator.next)

pub loop-place-init : goal.loop-place-init
loop-place-init g c =
    let (next, end) = c.line_places-place-items.ensures.all in
    rw (c.into_iter-place-iterator.ensures.into_iter_gives, next) (end, omega arith, λ test says fits. pack_none test c.args.lines.now c.args.room.now)

pub bounds-room-at-in-loop-place : goal.bounds-room-at-in-loop-place
bounds-room-at-in-loop-place g c = simp length-set (omega (arith, left g c))

pub loop-place-preserved : goal.loop-place-preserved
loop-place-preserved g c =
    let (ends, most, fronted) = c.loop-place.invariant in
    let (same, (below, is, more)) = c.in-Some.ensures.steps in
    let (one, two) = c.line_at-ends.ensures.ends in
    let lines = c.args.lines.now in
    let next = c.loop-place.place-iterator.next in
    let first : c.line_at-ends.result.one.0 ≡ end_one lines next = one ∙ ap (end_one lines) (omega arith) in
    let second : c.line_at-ends.result.two.0 ≡ end_two lines next = two ∙ ap (end_two lines) (omega arith) in (
      omega arith,
      omega arith,
      λ test says fits.
          let e : c.chosen.result ≡ test next = says.says _ c.chosen.result (omega arith) c.chosen.ensures ∙ ap test (omega arith) in
          rw (c.from.ensures, more, first, second) (pack_step test lines (fronted test says fits) c.chosen.result (sym e) (left g (goal.at.loop-place-preserved g c).After-line_at-ends)),
    )

pub returns-then-room-at : goal.returns-then-room-at
unfolding chosen_lines
returns-then-room-at g c =
    let (ends, most, fronted) = c.loop-place.invariant in
    let m = length c.args.lines.now / 2 in
    let same = c.loop-place.auto.room in
    record {
      put = λ test says fits. pack_all test c.args.lines.now
          (pack_rest test c.args.lines.now m (omega arith) (omega (arith, fits, same, c.if-room-at.true)) (fronted test says fits)) (fits ∙ sym same);
    }

pub returns : goal.returns
unfolding chosen_lines
returns g c =
    let (ends, most, fronted) = c.loop-place.invariant in
    let (same, (last, stays)) = c.in-None.ensures.steps in
    let e : c.loop-place.place-iterator.next ≡ length c.args.lines.now / 2 = omega arith in
    record { put = λ test says fits. pack_all test c.args.lines.now (rw e at (fronted test says fits)) (fits ∙ sym c.loop-place.auto.room) }
