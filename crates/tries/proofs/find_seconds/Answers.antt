-- `tries::find_seconds` meets its contract. One mark is set for the pass, and taken out again. Assumes nothing.
use lib.ListN.{length}
use Rattle.tries.proofs.Cutting.{seconds_weak}
use Rattle.tries.proofs.find_seconds.Goals as goal

pub returns-clause-seconds : goal.returns-clause-seconds
returns-clause-seconds c =
    let a = c.args in
    let p = c.requires in
    let net = a.network.now in
    seconds_weak net.n a.neighbours.now.begins.now a.neighbours.now.near.now a.gone.now c.find_cuts.new.cut (length a.depths.now) a.one.0 p.2 p.3 p.0 p.1 c.find_cuts.ensures.cuts net.lines.now net.sound p.4
