-- What is known of buffers that a network was read into.
-- Assumes nothing.
use Prim.Native.Nat.{ℕ, ◌*◌}
use mathlib.Core.Path.{◌≡◌, sym}
use mathlib.Core.Bool.{◌||◌}
use mathlib.Core.List.{List}
use lib.Dec.{ltb}
use lib.ListN.{length}
use lib.Seq.{take_at}
use Rattle.std.specs.Prelude.{Ok}
use Rattle.kinds.specs.Answers.{Answer.given}
use Rattle.kinds.proofs.Answers.{then_given}
use Rattle.limits.specs.Limits.{room_judged}
use Rattle.reading.specs.Parts.{placed}
use Rattle.reading.specs.Reading.{Facts, file_read, read_answer, lines_after, starts_after, line_numbers, start_numbers}
use Rattle.reading.specs.Answers.{facts_of, ReadAllows}
use Rattle.reading.specs.Files.{ReadInto}
use Rattle.reading.specs.declared.Found.{Found}
use Rattle.reading.proofs.Contents.{length_lines, length_starts}
use Rattle.reading.proofs.Files.{read_formed}

-- The lines and the starts of a file, put at the front of two buffers.
pub copied_into : {bytes lines' starts' : List ℕ} {facts : Facts} (lines starts : List ℕ) → file_read bytes ≡ given facts
    → lines' ≡ placed lines 0 (line_numbers bytes facts.lines) → starts' ≡ placed starts 0 (start_numbers bytes facts.lines facts.starts)
    → ReadInto bytes facts lines' starts'
unfolding placed
copied_into {bytes} {lines'} {starts'} {facts} lines starts read new_lines new_starts =
    let f = read_formed bytes facts read in
    rw (new_lines, new_starts)
    (record {
      read = read;
      few_lines = f.few_lines;
      few_starts = f.few_starts;
      lines_part = take_at (line_numbers bytes facts.lines) _ (2 * facts.lines) (length_lines bytes facts.lines);
      starts_part = take_at (start_numbers bytes facts.lines facts.starts) _ facts.starts (length_starts bytes facts.lines facts.starts);
    })

pub read_into : {bytes lines starts lines' starts' : List ℕ} {found : Found} → ReadAllows bytes lines starts (Ok found) lines' starts'
    → ReadInto bytes (facts_of found) lines' starts'
unfolding read_answer lines_after starts_after
read_into {bytes} {lines} {starts} {lines'} {starts'} {found} call =
    let e : read_answer bytes lines starts ≡ given (facts_of found) = sym call.answer in
    let (_, r) = then_given (room_judged (ltb (length lines) 16384 || ltb (length starts) 16)) (file_read bytes) e in
    copied_into lines starts r (rw e at call.new_lines) (rw e at call.new_starts)
