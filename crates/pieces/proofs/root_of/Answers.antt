-- `pieces::root_of` meets its contract. Assumes nothing.
use mathlib.Core.Path.{sym, ◌∙◌}
use native.Mathlib.Omega.{arith}
use Rattle.pieces.proofs.Tables.{skip_same, skip_less, shorten_leads}
use Rattle.pieces.proofs.root_of.Goals as goal

pub loop-pieces-preserved : goal.loop-pieces-preserved
loop-pieces-preserved c =
    let l = c.loop-pieces in
    let g = c.requires.1 in
    let t = (l.invariant.2 g.names g.leads).0 in
    let s = c.shorten-v.ensures in (
      omega (arith, s.next, skip_less g.names l.pieces t l.v.0 (omega arith) c.loop-pieces-test.true),
      omega arith,
      λ names leads.
          let k = l.invariant.2 names leads in
          (rw s.table (shorten_leads names l.pieces k.0 l.v.0 (omega arith)), rw s.next (skip_same names l.pieces k.0 l.v.0 (omega arith) ∙ k.1)),
    )

pub returns : goal.returns
returns c =
    let l = c.loop-pieces in
    record {
      root = λ names leads.
          let k = l.invariant.2 names leads in
          (k.0, sym (k.0.last l.v.0 (omega arith) c.loop-pieces-test.false) ∙ k.1);
    }
