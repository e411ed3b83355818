-- `reading::read_records` meets its contract. Assumes nothing.
use Prim.Native.Nat.{suc, ◌+◌, ◌-◌}
use mathlib.Core.Path.{◌≡◌, sym, ap, ◌∙◌}
use native.Mathlib.Nat.{sub-zero}
use native.Mathlib.Omega.{arith}
use borrow.Author.Rules.{rules}
use lib.ListN.{length}
use Rattle.std.specs.Prelude.{Ok}
use Rattle.std.proofs.lemmas.Result.{err_from_is_err_and}
use Rattle.kinds.specs.Refusals.{number_of, place_of, list_of}
use Rattle.kinds.specs.Answers.{Answer.given, refusal_answer}
use Rattle.reading.specs.Answers.{record_answer}
use Rattle.reading.specs.declared.Record.{Record}
use Rattle.reading.specs.Reading.{record_after, records_read}
use Rattle.reading.specs.Numbers.{mark_ln, mark_rt, mark_en}
use Rattle.reading.proofs.Records.{next_given, next_line, next_start, next_end, read_line, read_start, read_end, read_refused}
use Rattle.reading.proofs.read_records.Goals as goal

pub loop-lines-init : goal.loop-lines-init
loop-lines-init c = (search rules, ap (records_read c.args.bytes.now 0 0) (sym (sub-zero (length c.args.bytes.now))))

pub loop-lines-preserved-in-Line : goal.loop-lines-preserved-in-Line
loop-lines-preserved-in-Line c =
    let bytes = c.args.bytes.now in
    let m = c.loop-lines.lines in
    let s = c.loop-lines.starts in
    let e : record_after bytes m s ≡ given mark_ln = sym c.in_ok-record_after.ensures.«record» ∙ ap (λ (kind : Record). record_answer (Ok kind)) c.in-Line.is in
    let (z, few, h) = next_line (next_given bytes m s mark_ln e) in
    (omega arith, c.loop-lines.invariant.1 ∙ read_line bytes m s (length bytes - (m + s)) (length bytes - (m + 1 + s)) (omega arith) e)

pub loop-lines-preserved : goal.loop-lines-preserved
loop-lines-preserved c =
    let bytes = c.args.bytes.now in
    let m = c.loop-lines.lines in
    let s = c.loop-lines.starts in
    let e : record_after bytes m s ≡ given mark_rt = sym c.in_ok-record_after.ensures.«record» ∙ ap (λ (kind : Record). record_answer (Ok kind)) c.in-Start.is in
    let (few, h) = next_start (next_given bytes m s mark_rt e) in
    (omega arith, c.loop-lines.invariant.1 ∙ read_start bytes m s (length bytes - (m + s)) (length bytes - (m + (s + 1))) (omega arith) e)

pub read_end-requires : goal.read_end-requires
read_end-requires c =
    let bytes = c.args.bytes.now in
    let m = c.loop-lines.lines in
    let s = c.loop-lines.starts in
    let e : record_after bytes m s ≡ given mark_en = sym c.in_ok-record_after.ensures.«record» ∙ ap (λ (kind : Record). record_answer (Ok kind)) c.in-End.is in
    next_end (next_given bytes m s mark_en e)

pub returns-in-End : goal.returns-in-End
returns-in-End c =
    let bytes = c.args.bytes.now in
    let m = c.loop-lines.lines in
    let s = c.loop-lines.starts in
    let e : record_after bytes m s ≡ given mark_en = sym c.in_ok-record_after.ensures.«record» ∙ ap (λ (kind : Record). record_answer (Ok kind)) c.in-End.is in
    let r : length bytes - (m + s) ≡ suc (length bytes - (m + s + 1)) = omega arith in
    record { answer = c.read_end.ensures.answer ∙ sym (c.loop-lines.invariant.1 ∙ read_end bytes m s (length bytes - (m + s)) (length bytes - (m + s + 1)) r e) }

pub returns-in_err-record_after : goal.returns-in_err-record_after
returns-in_err-record_after c =
    let bytes = c.args.bytes.now in
    let m = c.loop-lines.lines in
    let s = c.loop-lines.starts in
    let refusal = c.in_err-record_after.field-0.0 in
    let r : length bytes - (m + s) ≡ suc (length bytes - (m + s + 1)) = omega arith in
    let e : refusal_answer refusal ≡ record_after bytes m s = c.in_err-record_after.ensures.«record» in
    let (passed, is, same) = err_from_is_err_and c.from_residual.result c.from_residual.ensures.1 in
    record {
      answer = rw (is, same)
          (sym (c.loop-lines.invariant.1 ∙ read_refused bytes m s (length bytes - (m + s)) (length bytes - (m + s + 1)) r (number_of refusal) (place_of refusal) (list_of refusal) e));
    }
