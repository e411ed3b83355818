-- `programs::weak_network` meets its contract. Both arms rewrite by what the search answered. Assumes nothing.
use mathlib.Core.Bool.{false}
use mathlib.Core.Path.{◌≡◌, sym, ◌∙◌}
use native.Mathlib.Omega.{arith}
use borrow.Author.Tests.{le-ltb}
use lib.ListN.{length}
use lib.Dec.{ltb}
use Rattle.weakness.specs.Search.{weak_answer}
use Rattle.parting.specs.Answers.{found_standing}
use Rattle.report.specs.Answers.{refused_short}
use Rattle.standing.specs.Text.{weak_short}
use Rattle.kinds.specs.Answers.{Answer.given, refusal_answer}
use Rattle.programs.specs.Weak.{searched_text}
use Rattle.programs.proofs.weak_network.Goals as goal

pub returns-in-Ok : goal.returns-in-Ok
unfolding searched_text weak_short
returns-in-Ok c =
    let a = c.args in
    let w = c.write_standing in
    let e : weak_answer a.n a.level.0 a.lines.now ≡ given (found_standing c.in-Ok.found) = sym c.find_weak_spot.ensures.answer ∙ rw c.in-Ok.is in
    let room : ltb (length a.text.now) 256 ≡ false = le-ltb (length a.text.now) 256 c.requires in
    record { answer = rw e (rw room at w.ensures.answer); text = rw e (rw room at w.ensures.text) }

pub returns-in-Err : goal.returns-in-Err
unfolding searched_text refused_short
returns-in-Err c =
    let a = c.args in
    let w = c.write_refused in
    let e : weak_answer a.n a.level.0 a.lines.now ≡ refusal_answer c.in-Err.refusal = sym c.find_weak_spot.ensures.answer ∙ rw c.in-Err.is in
    let room : ltb (length a.text.now) 64 ≡ false = le-ltb (length a.text.now) 64 (omega (arith, c.requires)) in
    record { answer = rw e (rw room at w.ensures.answer); text = rw e (rw room at w.ensures.text) }
