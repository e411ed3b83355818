-- `seen::empty_tables` meets its contract. A store in the table is one in each of the three. Assumes nothing.
use mathlib.Core.Bool.{false}
use native.Mathlib.Omega.{arith}
use lib.ListN.{length-set, length-map}
use Rattle.std.proofs.lemmas.List.{map-set}
use Rattle.laws.proofs.Lists.{write_next}
use Rattle.seen.specs.Sightings.{tables}
use Rattle.seen.proofs.empty_tables.Goals as goal

pub loop-j-preserved : goal.loop-j-preserved
loop-j-preserved c =
    let i = c.loop-j.invariant in
    let l = c.loop-j in
    let t = tables l.sightings in (
      simp length-set i.0,
      simp map-set (write_next (λ x. x) t.earliest l.j 0 (simp length-map (omega arith)) i.1),
      simp map-set (write_next (λ x. false) t.parents l.j false (simp length-map (omega arith)) i.2),
      simp map-set (write_next (λ x. false) t.others l.j false (simp length-map (omega arith)) i.3),
    )
