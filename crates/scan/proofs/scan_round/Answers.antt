-- `scan::scan_round` meets its contract: from its start on, the scans are the definition's. Assumes nothing.
use mathlib.Core.Path.{ap, ◌∙◌}
use Rattle.rule.specs.Rule.{Scanning, all_scanned, one_round}
use Rattle.scan.proofs.scan_round.Goals as goal

pub returns : goal.returns
unfolding one_round
returns c =
    let a = c.args in
    let e = c.start.ensures.started a.n a.ranks.now c.requires.1 c.requires.0.most in
    record { ranks = c.scan_all.ensures.ranks ∙ ap (λ (t : Scanning). (all_scanned a.n a.lines.now a.round.0 t).ranks) e; order = c.scan_all.ensures.order ∙ ap (λ (t : Scanning). (all_scanned a.n a.lines.now a.round.0 t).order) e }
