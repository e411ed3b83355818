-- `writing::write_file` meets its contract. The records put in one after the other are the file. Assumes nothing.
use Prim.Native.Nat.{ℕ, ◌+◌, ◌*◌, ◌/◌}
use mathlib.Core.Path.{refl, ap, ◌∙◌}
use mathlib.Core.List.{List}
use lib.ListN.{length}
use Rattle.reading.specs.Parts.{placed, gathered}
use Rattle.writing.proofs.Written.{file_placed}
use Rattle.reading.specs.Numbers.{mark_en}
use Rattle.writing.specs.Writing.{one_record, line_record, start_record}
use Rattle.reading.specs.Reading.{offset_after}
use Rattle.writing.proofs.write_file.Goals as goal

pub returns : goal.returns
returns c =
    let a = c.args in
    let m = length a.lines.now / 2 in
    let s = length a.starts.now in
    let ends = gathered (line_record a.lines.now) m in
    let begins = gathered (start_record a.starts.now) s in
    let lined = c.write_lines.ensures.bytes ∙ ap (λ (x : List ℕ). placed x 6 ends) c.put_two.ensures.bytes in
    let started = c.write_starts.ensures.bytes ∙ ap (λ (x : List ℕ). placed x (6 + 6 * m) begins) lined in record {
      count = refl;
      bytes = c.put_one.ensures.bytes
          ∙ (ap (λ (x : List ℕ). placed x (offset_after m s) (one_record mark_en m)) started
          ∙ file_placed a.n a.level.0 a.lines.now a.starts.now a.bytes.now);
    }
