-- `programs::say` meets its contract. What reading found is what the bytes say; of a refused file the refusal is written, by either program.
-- Assumes nothing.
use mathlib.Core.Path.{◌≡◌, sym, ap, ◌∙◌}
use mathlib.Core.Bool.{false}
use mathlib.Core.List.{List}
use Prim.Native.Nat.{ℕ, ◌≤◌}
use native.Mathlib.Omega.{arith}
use borrow.Author.Tests.{le-ltb}
use lib.Dec.{ltb}
use lib.ListN.{length}
use Rattle.kinds.specs.Answers.{Answer.given, Answer.refused}
use Rattle.reading.specs.Reading.{file_read}
use Rattle.reading.specs.Answers.{facts_of, reading_answer}
use Rattle.reading.proofs.Files.{read_formed}
use Rattle.report.specs.Text.{refused_text}
use Rattle.report.specs.Answers.{refused_short}
use Rattle.programs.specs.Keep.{read_text, keep_output}
use Rattle.programs.specs.Weak.{weak_read_text, weak_output}
use Rattle.programs.specs.Programs.{output_of, room_of}
use Rattle.programs.specs.declared.Program.{Program}
use Rattle.programs.specs.declared.Program.TheVariants.{Keep, Weak}
use Rattle.programs.proofs.say.Goals as goal
use Rattle.programs.proofs.say.Goals.{In-Ok}

-- what the bytes say, once a network was found
found : (c : In-Ok) → file_read c.args.bytes.now ≡ given (facts_of c.in-Ok.found)
found c = sym c.read_file.ensures.answer ∙ ap reading_answer c.in-Ok.is

pub say_with-requires-clause-found : goal.say_with-requires-clause-found
say_with-requires-clause-found c = found (goal.at.say_with-requires-clause-found c).In-Ok

-- no file that was read has more lines than the large buffers hold
pub say_with-requires-else-found-le-FEW_STATIONS-clause-room : goal.say_with-requires-else-found-le-FEW_STATIONS-clause-room
say_with-requires-else-found-le-FEW_STATIONS-clause-room c =
    let few = (read_formed c.args.bytes.now (facts_of c.in-Ok.found) (found (goal.at.say_with-requires-else-found-le-FEW_STATIONS-clause-room c).In-Ok)).few_lines in
    let room : (c.in-Ok.found.counts.lines ≤ 8192) × (16384 ≤ 16384) × (room_of c.args.program ≤ length c.args.text.now) = (few, omega arith, rw c.room.ensures.room at c.if-text-room.false) in
    room

-- either program writes the refusal of a file that is refused, and has room for it
refused_output : (program : Program) (bytes : List ℕ) {number place list : ℕ} → file_read bytes ≡ refused number place list → output_of program bytes ≡ refused_text number place
unfolding keep_output read_text weak_output weak_read_text
refused_output Keep bytes e = rw e
refused_output Weak bytes e = rw e

refused_room : (program : Program) (room : ℕ) → room_of program ≤ room → ltb room 64 ≡ false
refused_room Keep room h = le-ltb room 64 (omega arith)
refused_room Weak room h = le-ltb room 64 (omega arith)

pub returns-in-Err : goal.returns-in-Err
unfolding refused_short
returns-in-Err c =
    let a = c.args in
    let w = c.write_refused.ensures in
    let e = refused_output a.program a.bytes.now (sym c.read_file.ensures.answer ∙ ap reading_answer c.in-Err.is) in
    let fits : room_of a.program ≤ length a.text.now = rw c.room.ensures.room at c.if-text-room.false in
    let enough : ltb (length a.text.now) (room_of a.program) ≡ false = le-ltb (length a.text.now) (room_of a.program) fits in
    let room = refused_room a.program (length a.text.now) fits in
    record { allowed = record { answer = rw (enough, e) (rw room at w.answer); new_text = rw (enough, e) (rw room at w.text) } }
