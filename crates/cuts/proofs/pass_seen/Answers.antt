-- `cuts::pass_seen` meets its contract. Assumes nothing.
use native.Mathlib.Omega.{arith}
use mathlib.Core.Logic.{◌≢◌}
use mathlib.Core.Path.{◌∙◌}
use lib.ListN.{get_or}
use borrow.Author.Rules.{rules}
use Rattle.cuts.proofs.Visits.{going_holds, going_passed}
use Rattle.cuts.proofs.pass_seen.Goals as goal

pub loop-neighbour-preserved : goal.loop-neighbour-preserved
loop-neighbour-preserved c =
    let l = c.loop-neighbour in
    let h = c.with_seen-passing.ensures.visit in
    let below = c.in-Some.ensures.neighbour.0 in
    let there = c.in-Some.ensures.neighbour.1 in
    let deep : get_or c.args.depths.now c.in-Some.neighbour.0 0 ≢ 0 = search rules in
    let inside = c.args.neighbours.now.bound.stations c.args.visit.station.0 l.passing.next.0 (omega (arith, c.requires.0, c.requires.1)) l.invariant.1 (rw l.invariant.0 at below) in (
      h.station ∙ l.invariant.0,
      omega (arith, h.next, l.invariant.1),
      λ r cut₀ cut d g.
          let G = l.invariant.2 r cut₀ cut d g in
          going_holds h (rw (← there) at (going_passed G below (omega (arith, G.size, inside, c.requires.0)) (rw there at deep))),
    )
