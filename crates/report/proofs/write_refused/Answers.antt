-- `report::write_refused` meets its contract. Each return rewrites by the test that led to it; the row stands at the front. Assumes
-- nothing.
use mathlib.Core.Path.{ap}
use borrow.Author.Tests.{lt-ltb, le-ltb}
use Rattle.report.proofs.Writing.{puts_front}
use Rattle.report.specs.Answers.{refused_short}
use Rattle.std.specs.Prelude.{Ok}
use Rattle.report.proofs.write_refused.Goals as goal

pub returns-then-text-lt64 : goal.returns-then-text-lt64
unfolding refused_short
returns-then-text-lt64 c = let e = lt-ltb _ _ c.if-text-lt64.true in record { answer = rw e; text = rw e }

pub returns : goal.returns
unfolding refused_short
returns c =
    let e = le-ltb _ _ c.if-text-lt64.false in
    let f = rw (c.number_of-number.ensures.number, c.place_of-place.ensures.place) at (puts_front c.put_refusal-end.ensures.put) in
    record { answer = rw e (ap Ok f.0); text = rw e f.1 }
