-- `kept::put_lines` meets its contract: a chosen line finds its two places, since the room is long enough for all. Assumes nothing.
use Prim.Native.Nat.{ℕ, ◌+◌, ◌-◌, ◌*◌, ◌/◌, ◌≤◌}
use mathlib.Core.Path.{◌≡◌, refl, sym, ap, ◌∙◌}
use mathlib.Core.Bool.{Bool}
use native.Mathlib.Omega.{arith}
use borrow.Rule.Slice.PartMut.{mid_of}
use lib.ListN.{length, drop, length-take, length-drop}
use Rattle.laws.specs.Count.{bit}
use Rattle.laws.specs.Fold.{up_to}
use Rattle.network.specs.Lines.{end_one, end_two}
use Rattle.kept.specs.Chosen.{Chooses}
use Rattle.kept.specs.Kept.{chosen_lines}
use Rattle.kept.proofs.Copying.{line_left, put_step}
use Rattle.kept.proofs.put_lines.Goals as goal
use Rattle.kept.proofs.put_lines.Goals.{After-chosen}

-- the test's answer is the one to the next place
answered : (g : _) (c : After-chosen g) (test : ℕ → Bool) → Chooses (goal.F-post g c.args.chosen) test (length c.args.lines.now / 2)
    → c.chosen.result ≡ test c.loop-place.place-iterator.next
answered g c test says =
    let (ends, most, filled) = c.loop-place.invariant in
    let (same, (below, is, more)) = c.in-Some.ensures.steps in
    says.says _ c.chosen.result (omega arith) c.chosen.ensures ∙ ap test (omega arith)

-- the two places of a line, if it is chosen
left : (g : _) (c : After-chosen g) → c.loop-place.at + 2 * bit c.chosen.result ≤ length c.loop-place.room
left g c =
    let (test, says, fits) = c.requires.fits in
    let (ends, most, filled) = c.loop-place.invariant in
    let (same, (below, is, more)) = c.in-Some.ensures.steps in
    let m = length c.args.lines.now / 2 in
    omega (arith, c.loop-place.auto.room, fits, rw (← answered g c test says) at (line_left test c.args.lines.now m (filled test says).size (omega arith)))

-- and so in the part of the room that is lent
part_left : (g : _) (c : After-chosen g) → 2 * bit c.chosen.result ≤ length (mid_of c.loop-place.at (length c.loop-place.room - c.loop-place.at) c.loop-place.room)
part_left g c =
    let room = c.loop-place.room in
    let at = c.loop-place.at in
    omega (arith, left g c, length-take (length room - at) (drop at room), length-drop at room)

pub loop-place-init : goal.loop-place-init
unfolding up_to
loop-place-init g c =
    let (next, end) = c.line_places-place-items.ensures.all in
    rw (c.into_iter-place-iterator.ensures.into_iter_gives, next) (end, omega arith, λ test says. record { size = refl; is = refl })

pub put_chosen-at-requires : goal.put_chosen-at-requires
put_chosen-at-requires g c = part_left g (goal.at.put_chosen-at-requires g c).After-chosen

pub loop-place-preserved : goal.loop-place-preserved
loop-place-preserved g c =
    let (ends, most, filled) = c.loop-place.invariant in
    let (same, (below, is, more)) = c.in-Some.ensures.steps in
    let (one, two) = c.line_at.ensures.ends in
    let lines = c.args.lines.now in
    let next = c.loop-place.place-iterator.next in
    let first : c.line_at.result.one.0 ≡ end_one lines next = one ∙ ap (end_one lines) (omega arith) in
    let second : c.line_at.result.two.0 ≡ end_two lines next = two ∙ ap (end_two lines) (omega arith) in
    let asked = (goal.at.loop-place-preserved g c).After-chosen in (
      omega arith,
      omega arith,
      λ test says.
          rw (c.put_chosen-at.ensures.count, c.put_chosen-at.ensures.put, more, first, second)
          (put_step test lines (filled test says) c.chosen.result (sym (answered g asked test says)) _ (part_left g asked)
          (omega (arith, c.loop-place.auto.room, left g asked))),
    )

pub returns : goal.returns
unfolding chosen_lines
returns g c =
    let (ends, most, filled) = c.loop-place.invariant in
    let (same, (last, stays)) = c.in-None.ensures.steps in
    let e : c.loop-place.place-iterator.next ≡ length c.args.lines.now / 2 = omega arith in
    record { put = λ test says. let f = rw e at (filled test says) in rw f.size f.is }
