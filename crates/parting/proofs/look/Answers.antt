-- `parting::look` meets its contract. The marks say which stations of the list are taken away, so the pieces found by them are the
-- definition's. Assumes nothing.
use Rattle.std.specs.Prelude.{None}
use mathlib.Core.Path.{◌≡◌}
use borrow.Author.Rules.{rules}
use native.Mathlib.Omega.{arith}
use Rattle.parting.specs.Answers.{spot_stations}
use Rattle.parting.proofs.Looking.{looked_none, looked_whole, looked_apart}
use Rattle.parting.proofs.look.Goals as goal

pub returns-in_err-one : goal.returns-in_err-one
returns-in_err-one c =
    let a = c.args in
    let p = c.requires in
    let e : c.from_residual.result ≡ None = search rules in
    record { found = rw e (looked_none a.network.now.n a.network.now.lines.now (spot_stations a.spot) a.gone.now a.network.now.sound.simple.proper p.0 p.2 (omega (arith, c.in_err-one.ensures.lowest))) }

pub returns-in_err-two : goal.returns-in_err-two
returns-in_err-two c =
    let a = c.args in
    let p = c.requires in
    let e : c.from_residual-in_err-two.result ≡ None = search rules in
    record { found = rw e (looked_whole a.network.now.n a.network.now.lines.now (spot_stations a.spot) a.gone.now a.network.now.sound.simple.proper p.0 p.2 c.find_pieces.new.pieces c.find_pieces.ensures.pieces _ _ c.in_ok-one.ensures.lowest c.in_err-two.ensures.lowest (omega arith)) }

pub returns : goal.returns
returns c =
    let a = c.args in
    let p = c.requires in
    record { found = rw c.found_at.ensures.found (looked_apart a.network.now.n a.network.now.lines.now (spot_stations a.spot) a.gone.now a.network.now.sound.simple.proper p.0 p.2 c.find_pieces.new.pieces c.find_pieces.ensures.pieces _ _ c.in_ok-one.ensures.lowest c.in_ok-two.ensures.lowest c.in_ok-two.ensures.station) }
