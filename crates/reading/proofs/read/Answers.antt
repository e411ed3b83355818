-- `reading::read` meets its contract. What the file's facts say gives the room to copy; a refused call writes nothing. Assumes nothing.
use mathlib.Core.Path.{◌≡◌, sym, ◌∙◌}
use native.Mathlib.Omega.{arith}
use borrow.Author.Tests.{lt-ltb, le-ltb}
use lib.ListN.{length}
use Rattle.std.proofs.lemmas.Result.{err_from_is_err_and}
use Rattle.kinds.specs.Answers.{Answer.given, refusal_answer}
use Rattle.limits.specs.Limits.{room_judged}
use Rattle.reading.specs.Reading.{file_read, read_answer, lines_after, starts_after}
use Rattle.reading.specs.Answers.{facts_of}
use Rattle.reading.proofs.Files.{read_formed}
use Rattle.reading.proofs.Contents.{read_room}
use Rattle.reading.proofs.read.Goals as goal
use Rattle.reading.proofs.read.Goals.{In_ok-found, then-lines-via-then-lines, then-lines-via-else-lines+then-starts-lt-MOST_STARTS}

pub returns-then-lines : goal.returns-then-lines
unfolding read_answer lines_after starts_after room_judged
returns-then-lines c = elim c.then-lines.branch [
  | then-lines-via-then-lines w ↦ (let l = lt-ltb (length c.args.lines.now) 16384 w.if-lines.true in record { allowed = record { answer = rw l; new_lines = rw l; new_starts = rw l } })
  | then-lines-via-else-lines+then-starts-lt-MOST_STARTS w ↦ (let l = le-ltb (length c.args.lines.now) 16384 w.if-lines.false in
      let s = lt-ltb (length c.args.starts.now) 16 w.if-starts-lt-MOST_STARTS.true in
      record { allowed = record { answer = rw (l, s); new_lines = rw (l, s); new_starts = rw (l, s) } })
]

-- what the bytes say, once a network was found
found : (c : In_ok-found) → file_read c.args.bytes.now ≡ given (facts_of c.in_ok-found.found)
found c = sym c.in_ok-found.ensures.answer

pub copy_network-requires : goal.copy_network-requires
copy_network-requires c =
    let f = read_formed c.args.bytes.now (facts_of c.in_ok-found.found) (found (goal.at.copy_network-requires c).In_ok-found) in
    (omega (arith, f.size), f.few_lines, f.few_starts, omega (arith, f.few_lines), omega (arith, f.few_starts))

pub returns : goal.returns
unfolding lines_after starts_after
returns c =
    let a = c.args in
    let r = read_room a.bytes.now a.lines.now a.starts.now (omega arith) (omega arith) ∙ found (goal.at.returns c).In_ok-found in
    record { allowed = record { answer = sym r; new_lines = rw r c.copy_network.ensures.lines; new_starts = rw r c.copy_network.ensures.starts } }

pub returns-in_err-found : goal.returns-in_err-found
unfolding lines_after starts_after
returns-in_err-found c =
    let a = c.args in
    let e : file_read a.bytes.now ≡ refusal_answer c.in_err-found.field-0.0 = sym c.in_err-found.ensures.answer in
    let r = read_room a.bytes.now a.lines.now a.starts.now (omega arith) (omega arith) ∙ e in
    let (passed, is, same) = err_from_is_err_and c.from_residual.result c.from_residual.ensures.1 in
    record { allowed = record { answer = rw (is, same) (sym r); new_lines = rw r; new_starts = rw r } }
