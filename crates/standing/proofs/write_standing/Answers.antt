-- `standing::write_standing` meets its contract. Each return rewrites by the test that led to it; the header and the row, one after the
-- other, are the text, from the front. Assumes nothing.
use mathlib.Core.Path.{ap}
use borrow.Author.Tests.{lt-ltb, le-ltb}
use Rattle.std.specs.Prelude.{Ok}
use Rattle.standing.specs.Text.{weak_short, weak_text}
use Rattle.report.proofs.Writing.{puts_then, puts_front}
use Rattle.standing.proofs.write_standing.Goals as goal

pub returns-then-text-lt256 : goal.returns-then-text-lt256
unfolding weak_short
returns-then-text-lt256 c = let e = lt-ltb _ _ c.if-text-lt256.true in record { answer = rw e; text = rw e }

pub returns : goal.returns
unfolding weak_short weak_text
returns c =
    let e = le-ltb _ _ c.if-text-lt256.false in
    let f = puts_front (puts_then c.put_weak_header-at.ensures.put c.put_standing-end.ensures.put) in
    record { answer = rw e (ap Ok f.0); text = rw e f.1 }
