-- `cuts::visit_from` meets its contract. Assumes nothing.
use native.Mathlib.Omega.{arith}
use Prim.Native.Nat.{ℕ, ◌+◌, ◌<◌}
use mathlib.Core.Path.{◌≡◌, refl, sym, subst, ◌∙◌}
use mathlib.Core.List.{List}
use lib.ListN.{length, get_or, set, length-set}
use lib.Seq.{get_or-set_same}
use Rattle.neighbours.specs.Near.{Bound}
use Rattle.cuts.specs.declared.Visit.{Visit}
use Rattle.cuts.specs.Passes.{unseen}
use Rattle.cuts.specs.Visits.{Open}
use Rattle.cuts.proofs.Cuts.{visit_says}
use Rattle.cuts.proofs.Visits.{unseen_less, unseen_fewer, Fit, open_begun, open_fit, open_on, open_entered, open_next, open_left, open_ended}
use Rattle.cuts.proofs.visit_from.Goals as goal
use Rattle.cuts.proofs.visit_from.Goals.{After-pass_seen-visit}

-- What is open in a turn, `visit` being the deepest, if the first began at the depths s with station a.
abbrev Held : After-pass_seen-visit → List ℕ → ℕ → Visit → Type 0
Held c s a visit =
    let e = c.args in
    let l = c.loop-neighbour in
    Open e.neighbours.now.begins.now e.neighbours.now.near.now s e.cut.now a l.waiting l.depths l.cut l.depth visit

abbrev FitIn : After-pass_seen-visit → Visit → Type 0
FitIn c visit =
    let e = c.args in
    let l = c.loop-neighbour in
    Fit e.neighbours.now.begins.now e.depths.now e.cut.now l.depths l.cut l.depth visit

opens : (c : After-pass_seen-visit) → Held c c.args.depths.now c.args.first.0 c.loop-neighbour.visit
opens c = let b = c.begin_visit-visit in c.loop-neighbour.invariant.2 c.args.depths.now c.args.first.0 b.ensures.depths b.ensures.visit.station

fits : (c : After-pass_seen-visit) → FitIn c c.loop-neighbour.visit
fits c = open_fit (opens c)

-- The same once the neighbours that are seen are passed.
passes : (c : After-pass_seen-visit) {s : List ℕ} {a : ℕ} → Held c s a c.loop-neighbour.visit → Held c s a c.pass_seen-visit.result
passes c o = let p = c.pass_seen-visit.ensures.passed in open_on o p.station (λ r cut₀. p.goes r cut₀ c.loop-neighbour.cut c.loop-neighbour.depth)

fits_passed : (c : After-pass_seen-visit) → FitIn c c.pass_seen-visit.result
fits_passed c = open_fit (passes c (opens c))

-- The neighbour that is visited next: a station, without a depth, so that one fewer will be without.
abbrev neighbour : After-pass_seen-visit → ℕ
neighbour c = get_or c.args.neighbours.now.near.now c.pass_seen-visit.result.next.0 0

-- There is such a neighbour: the next entry is one of the station's own.
abbrev HasNext : After-pass_seen-visit → Type 0
HasNext c = c.pass_seen-visit.result.next.0 < get_or c.args.neighbours.now.begins.now (c.pass_seen-visit.result.station.0 + 1) 0

neighbour_in : (c : After-pass_seen-visit) → HasNext c → neighbour c < length c.loop-neighbour.depths
neighbour_in c more =
    let f = fits_passed c in
    let r = c.pass_seen-visit.result in
    omega (arith, f.size, c.requires.0, c.args.neighbours.now.bound.stations r.station.0 r.next.0 (omega (arith, f.station, c.requires.0)) f.past more)

neighbour_fresh : (c : After-pass_seen-visit) → HasNext c → get_or c.loop-neighbour.depths (neighbour c) 0 ≡ 0
neighbour_fresh c more = c.pass_seen-visit.ensures.passed.fresh more

fewer : (c : After-pass_seen-visit) → HasNext c → unseen (set c.loop-neighbour.depths (neighbour c) (c.loop-neighbour.depth + 1)) + 1 ≡ unseen c.loop-neighbour.depths
fewer c more = unseen_less c.loop-neighbour.depths (neighbour c) (c.loop-neighbour.depth + 1) (neighbour_in c more) (neighbour_fresh c more) (omega arith)

cut_in : (c : After-pass_seen-visit) → c.pass_seen-visit.result.station.0 < length c.loop-neighbour.cut
cut_in c =
    let f = fits_passed c in
    omega (arith, f.station, f.marked, c.requires.1)

pub loop-neighbour-init : goal.loop-neighbour-init
loop-neighbour-init c =
    let u = c.args.first.0 in
    let b = c.begin_visit-visit in
    let marked = b.new.depths in
    let inside : u < length marked = omega (arith, b.auto.depths, c.requires.2) in
    let deep : get_or marked u 0 ≡ 1 = rw b.ensures.depths (get_or-set_same c.args.depths.now u 1 0 c.requires.2) in
    (refl, omega (arith, unseen_fewer marked u inside (omega arith), b.auto.depths, c.requires.0, c.args.neighbours.now.few), λ r a e q. open_begun u e q inside b.ensures.visit)

pub pass_seen-visit-requires : goal.pass_seen-visit-requires
pass_seen-visit-requires c =
    let a = c.args in
    let b = c.begin_visit-visit in
    let f = open_fit (c.loop-neighbour.invariant.2 a.depths.now a.first.0 b.ensures.depths b.ensures.visit.station) in
    (f.size ∙ c.requires.0, omega (arith, f.size, f.station), f.past)

pub at-requires : goal.at-requires
at-requires c =
    let r = c.pass_seen-visit.result in
    let f = fits_passed (goal.at.at-requires c).After-pass_seen-visit in
    omega (arith, f.station, c.requires.0)

pub bounds-waiting-depth : goal.bounds-waiting-depth
bounds-waiting-depth c = omega (arith, fewer (goal.at.bounds-waiting-depth c).After-pass_seen-visit c.in-Some.ensures.neighbour.0, c.loop-neighbour.invariant.1)

pub begin_visit-visit-requires-in-Some : goal.begin_visit-visit-requires-in-Some
begin_visit-visit-requires-in-Some c = (rw c.in-Some.ensures.neighbour.1 (neighbour_in (goal.at.begin_visit-visit-requires-in-Some c).After-pass_seen-visit c.in-Some.ensures.neighbour.0), omega (arith, (fits (goal.at.begin_visit-visit-requires-in-Some c).After-pass_seen-visit).size, c.requires.0))

pub loop-neighbour-smaller-in-Some : goal.loop-neighbour-smaller-in-Some
loop-neighbour-smaller-in-Some c =
    let b = c.begin_visit-visit-in-Some in
    let less : unseen b.new.depths + 1 ≡ unseen c.loop-neighbour.depths = rw (b.ensures.depths, c.in-Some.ensures.neighbour.1) (fewer (goal.at.loop-neighbour-smaller-in-Some c).After-pass_seen-visit c.in-Some.ensures.neighbour.0) in
    omega arith

pub loop-neighbour-preserved-in-Some : goal.loop-neighbour-preserved-in-Some
loop-neighbour-preserved-in-Some c =
    let l = c.loop-neighbour in
    let there = (goal.at.loop-neighbour-preserved-in-Some c).After-pass_seen-visit in
    let more = c.in-Some.ensures.neighbour.0 in
    let b = c.begin_visit-visit-in-Some in
    let less : unseen b.new.depths + 1 ≡ unseen l.depths = rw (b.ensures.depths, c.in-Some.ensures.neighbour.1) (fewer there more) in (
      simp length-set l.invariant.0,
      omega (arith, less, l.invariant.1),
      λ s a e q.
          let o = passes there (l.invariant.2 s a e q) in
          rw (b.ensures.depths, c.in-Some.ensures.neighbour.1) (open_entered o (omega (arith, less, l.invariant.0, l.invariant.1)) c.in-Some.ensures.neighbour.0 (neighbour_in there more) (neighbour_fresh there more) (rw c.in-Some.ensures.neighbour.1 at b.ensures.visit)),
    )

pub bounds-cut-visit : goal.bounds-cut-visit
bounds-cut-visit c = cut_in (goal.at.bounds-cut-visit c).After-pass_seen-visit

pub returns-then-depth-eq-OUTERMOST : goal.returns-then-depth-eq-OUTERMOST
returns-then-depth-eq-OUTERMOST c =
    let a = c.args in
    let there = (goal.at.returns-then-depth-eq-OUTERMOST c).After-pass_seen-visit in
    let vis = open_ended (passes there (opens there)) c.if-depth-eq-OUTERMOST.true c.in_default.ensures.neighbour (cut_in there) in
    record { says = λ away lines un r. visit_says (length a.depths.now) a.neighbours.now.begins.now a.neighbours.now.near.now away a.depths.now c.loop-neighbour.depths a.cut.now _ a.first.0 _ refl un r vis lines }

pub overflow_sub-depth : goal.overflow_sub-depth
overflow_sub-depth c = (fits (goal.at.overflow_sub-depth c).After-pass_seen-visit).some

pub with_child-visit-requires : goal.with_child-visit-requires
with_child-visit-requires c =
    let a = c.args in
    let bound = subst (λ (n : ℕ). Bound n a.neighbours.now.begins.now a.neighbours.now.near.now) (sym c.requires.0) a.neighbours.now.bound in
    omega (arith, open_next (opens (goal.at.with_child-visit-requires c).After-pass_seen-visit) c.if-depth-eq-OUTERMOST.false bound, bound.few)

pub loop-neighbour-preserved : goal.loop-neighbour-preserved
loop-neighbour-preserved c =
    let l = c.loop-neighbour in (
      l.invariant.0,
      omega (arith, l.invariant.1),
      λ s a e q. open_left (passes (goal.at.loop-neighbour-preserved c).After-pass_seen-visit (l.invariant.2 s a e q)) c.if-depth-eq-OUTERMOST.false (omega (arith, l.invariant.1)) c.in_default.ensures.neighbour (cut_in (goal.at.loop-neighbour-preserved c).After-pass_seen-visit) c.with_child-visit.ensures.visit,
    )
