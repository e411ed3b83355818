-- `pieces::set_names` meets its contract. Assumes nothing.
use native.Mathlib.Omega.{arith}
use Rattle.pieces.proofs.Tables.{shorten_leads, names_next, names_all}
use Rattle.pieces.proofs.set_names.Goals as goal

pub loop-v-preserved : goal.loop-v-preserved
loop-v-preserved c =
    let l = c.loop-v in
    let s = c.shorten.ensures in (
      omega arith,
      λ names leads.
          let k = l.invariant.1 names leads in
          (rw s.table (shorten_leads names l.pieces k.0 l.v (omega arith)), rw s.table (names_next names l.pieces k.0 l.v (omega arith) k.1)),
    )

pub returns : goal.returns
returns c =
    let l = c.loop-v in
    record {
      names = λ names leads.
          let k = l.invariant.1 names leads in
          names_all names l.pieces k.0 (λ w h. k.1 w (omega arith));
    }
