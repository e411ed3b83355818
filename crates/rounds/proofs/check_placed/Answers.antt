-- `rounds::check_placed` meets its contract. When all lines are seen the tables say what the document's table says, so the verdicts by the
-- tables are its verdicts. Assumes nothing.
use Rattle.plans.specs.Checking.{stations_verdict}
use Rattle.plans.proofs.Verdicts.{or_faulty, or_next}
use Rattle.rounds.proofs.Tables.{placed_below, lines_right, stations_verdict_lem, lines_verdict_lem}
use Rattle.rounds.proofs.Seeing.{Right}
use Rattle.seen.specs.Tables.{Seen}
use Rattle.plans.specs.Verdicts.{is_faulty}
use Rattle.entries.specs.Answers.{fault_said}
use lib.ListN.{length}
use mathlib.Core.Bool.{true, false}
use mathlib.Core.Path.{◌≡◌, sym, ap, subst, ◌∙◌}
use Prim.Native.Nat.{◌/◌}
use borrow.Author.Rules.{rules}
use Rattle.seen.specs.Sightings.{tables}
use Rattle.rounds.specs.Tables.{all_seen_verdict}
use native.Mathlib.Omega.{arith}
use Rattle.rounds.proofs.check_placed.Goals as goal

pub see_lines-requires : goal.see_lines-requires
see_lines-requires c =
    let a = c.args in
    let p = c.requires in (
      p.2.size ∙ p.0,
      record {
        position = λ v l. omega (arith, p.2.size, placed_below (length a.order.now) a.network.now.lines.now a.ranks.now a.round.0 a.order.now a.positions.now (rw p.0 a.network.now.sound) p.1 p.2 v (omega (arith, p.2.size)));
        earliest_size = omega (arith, p.3.earliest_size, p.2.size);
        parents_size = omega (arith, p.3.parents_size, p.2.size);
        others_size = omega (arith, p.3.others_size, p.2.size);
      },
    )

pub returns-in_err-check_stations : goal.returns-in_err-check_stations
returns-in_err-check_stations c =
    let a = c.args in
    let p = c.requires in
    let n = length a.order.now in
    let R = subst (λ (z : Seen). Right n a.network.now.lines.now a.ranks.now a.round.0 a.order.now (length a.network.now.lines.now / 2) z) (sym c.see_lines.ensures.seen) (lines_right n a.network.now.lines.now a.ranks.now a.round.0 a.order.now a.positions.now (rw p.0 a.network.now.sound) p.1 p.2 _ p.3) in
    let e = stations_verdict_lem n a.network.now.lines.now a.ranks.now a.round.0 a.order.now a.positions.now (rw p.0 a.network.now.sound) p.1 p.2 _ R in
    let r : fault_said c.from_residual.result ≡ all_seen_verdict n a.round.0 a.order.now (tables c.see_lines.new.sightings) = search rules in
    let f : is_faulty (stations_verdict n a.network.now.lines.now a.ranks.now a.round.0 a.order.now) ≡ true = rw (← e) (sym (ap is_faulty c.in_err-check_stations.ensures.verdict)) in
    record { verdict = r ∙ (e ∙ sym (or_faulty _ _ f)) }

pub check_lines-requires : goal.check_lines-requires
check_lines-requires c =
    let a = c.args in
    let p = c.requires in
    (p.2.size ∙ p.0, λ v l. omega (arith, p.4, placed_below (length a.order.now) a.network.now.lines.now a.ranks.now a.round.0 a.order.now a.positions.now (rw p.0 a.network.now.sound) p.1 p.2 v (omega (arith, p.2.size))))

pub returns : goal.returns
returns c =
    let a = c.args in
    let p = c.requires in
    let n = length a.order.now in
    let R = subst (λ (z : Seen). Right n a.network.now.lines.now a.ranks.now a.round.0 a.order.now (length a.network.now.lines.now / 2) z) (sym c.see_lines.ensures.seen) (lines_right n a.network.now.lines.now a.ranks.now a.round.0 a.order.now a.positions.now (rw p.0 a.network.now.sound) p.1 p.2 _ p.3) in
    let e = stations_verdict_lem n a.network.now.lines.now a.ranks.now a.round.0 a.order.now a.positions.now (rw p.0 a.network.now.sound) p.1 p.2 _ R in
    let f : is_faulty (stations_verdict n a.network.now.lines.now a.ranks.now a.round.0 a.order.now) ≡ false = rw (← e) (sym (ap is_faulty c.in_ok-check_stations.ensures.verdict)) in
    let g = lines_verdict_lem n a.network.now.lines.now a.ranks.now a.round.0 a.order.now a.positions.now (rw p.0 a.network.now.sound) p.1 p.2 _ R a.trees.now p.4 in
    record { verdict = c.check_lines.ensures.verdict ∙ (rw (c.plant_all.ensures.planted, p.4) (g ∙ sym (or_next _ _ f))) }
