-- `joined::is_one_piece` meets its contract. The pieces found by the marks are those of the list that the marks are of. Assumes nothing.
use Rattle.pieces.proofs.Pieces.{same_piece}
use Rattle.joined.proofs.is_one_piece.Goals as goal

pub returns : goal.returns
returns c =
    let a = c.args in
    let p = c.requires in
    record { piece = λ away g. same_piece a.network.now.n a.network.now.lines.now away a.gone.now c.args.network.now.sound.simple.proper p.0 g c.find_pieces.new.pieces c.find_pieces.ensures.pieces a.one.0 a.two.0 }
