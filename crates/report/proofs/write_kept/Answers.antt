-- `report::write_kept` meets its contract. The header and the rows, one after the other, are the text, from the front. Assumes nothing.
use mathlib.Core.Path.{sym, ap, ◌∙◌}
use native.Mathlib.Omega.{arith}
use lib.ListN.{length}
use Rattle.report.proofs.Writing.{puts_length, puts_then, puts_front}
use Rattle.report.specs.Text.{keep_text}
use Rattle.report.proofs.Answers.{keep_room}
use Rattle.std.specs.Prelude.{Ok}
use Rattle.report.proofs.write_kept.Goals as goal

pub returns-then-is_short : goal.returns-then-is_short
returns-then-is_short c = let e = sym c.is_short.ensures.short ∙ c.if-is_short.true in record { answer = rw e; text = rw e }

pub put_header-at-requires : goal.put_header-at-requires
put_header-at-requires c =
    let a = c.args in
    let room = keep_room a.lines.now (length a.text.now) (sym c.is_short.ensures.short ∙ c.if-is_short.false) in
    omega (arith, room.1)

pub put_rows-end-requires : goal.put_rows-end-requires
put_rows-end-requires c =
    let a = c.args in
    let room = keep_room a.lines.now (length a.text.now) (sym c.is_short.ensures.short ∙ c.if-is_short.false) in
    (room.0, omega (arith, room.1, c.put_header-at.ensures.most, puts_length c.put_header-at.ensures.put))

pub shape_of-text : goal.shape_of-text
shape_of-text c = puts_length (puts_then c.put_header-at.ensures.put c.put_rows-end.ensures.put)

pub returns : goal.returns
unfolding keep_text
returns c =
    let e = sym c.is_short.ensures.short ∙ c.if-is_short.false in
    let f = puts_front (puts_then c.put_header-at.ensures.put c.put_rows-end.ensures.put) in
    record { answer = rw e (ap Ok f.0); text = rw e f.1 }
