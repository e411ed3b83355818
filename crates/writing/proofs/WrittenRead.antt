-- Writing what was read gives the same bytes.
-- The idea: each record is its part of the bytes, and the parts side by side are all the bytes. Assumes nothing.
use Prim.Native.Nat.{ℕ, ◌+◌, ◌*◌, ◌/◌, ◌%◌, ◌<◌, ◌≤◌}
use mathlib.Core.Path.{◌≡◌, refl, sym, ap, ap₂, ◌∙◌}
use mathlib.Core.List.{List, [], ◌∷◌, ◌++◌}
use native.Mathlib.Omega.{arith}
use lib.ListN.{length, get_or}
use Rattle.kinds.specs.Answers.{Answer.given}
use Rattle.network.specs.Lines.{end_one, end_two}
use Rattle.reading.specs.Numbers.{number_at, number_bytes, mark_nw, mark_ln, mark_rt, mark_en}
use Rattle.reading.specs.Parts.{gathered}
use Rattle.reading.specs.Reading.{Facts, offset_after, line_ends, line_numbers, start_station, start_numbers, file_read}
use Rattle.writing.specs.Writing.{two_record, one_record, line_record, start_record, file_bytes}
use Rattle.reading.specs.Files.{Formed}
use Rattle.writing.proofs.Slices.{part, part_all, part_append, part_two, gathered_part, get_d_gathered}
use Rattle.reading.proofs.Contents.{length_lines, length_starts}
use Rattle.reading.proofs.Files.{read_formed}

-- The ends and the starts that reading copies, by place.
module _ (bytes : List ℕ) where
  pub end_one_lem : (m p : ℕ) → p < m → end_one (line_numbers bytes m) p ≡ number_at bytes (6 + 6 * p + 2)
  unfolding line_numbers
  end_one_lem m p h = ap (λ (x : ℕ). get_or (gathered (line_ends bytes) m) x 0) (omega arith) ∙ get_d_gathered (line_ends bytes) 2 (λ j. refl) m p 0 h (omega arith)

  pub end_two_lem : (m p : ℕ) → p < m → end_two (line_numbers bytes m) p ≡ number_at bytes (6 + 6 * p + 4)
  unfolding line_numbers
  end_two_lem m p h = ap (λ (x : ℕ). get_or (gathered (line_ends bytes) m) x 0) (omega arith) ∙ get_d_gathered (line_ends bytes) 2 (λ j. refl) m p 1 h (omega arith)

  pub start_at : (m s q : ℕ) → q < s → get_or (start_numbers bytes m s) q 0 ≡ number_at bytes (offset_after m q + 2)
  unfolding start_numbers
  start_at m s q h = ap (λ (x : ℕ). get_or (gathered (start_station bytes m) s) x 0) (omega arith) ∙ get_d_gathered (start_station bytes m) 1 (λ j. refl) s q 0 h (omega arith)

module _ (bytes : List ℕ) (small : (i : ℕ) → i < length bytes → get_or bytes i 0 < 256) where
  -- a number's bytes are where it was read
  number_part : (at number : ℕ) → number_at bytes at ≡ number → at + 2 ≤ length bytes → number_bytes number ≡ part bytes at 2
  number_part at number e h =
      let a = get_or bytes at 0 in
      let b = get_or bytes (at + 1) 0 in
      let low : (a + 256 * b) % 256 ≡ a = omega (arith, small at (omega arith)) in
      let high : (a + 256 * b) / 256 ≡ b = omega (arith, small at (omega arith)) in
      sym (ap number_bytes e) ∙ (ap₂ (λ (x y : ℕ). x ∷ y ∷ []) low high ∙ part_two bytes at h)

  one_part : (at mark a : ℕ) → number_at bytes at ≡ mark → number_at bytes (at + 2) ≡ a → at + 4 ≤ length bytes → one_record mark a ≡ part bytes at 4
  one_part at mark a e f h =
      ap₂ ◌++◌ (number_part at mark e (omega arith)) (number_part (at + 2) a f (omega arith)) ∙ part_append bytes at 2 2 (at + 2) 4 refl refl

  two_part : (at mark a b : ℕ) → number_at bytes at ≡ mark → number_at bytes (at + 2) ≡ a → number_at bytes (at + 4) ≡ b → at + 6 ≤ length bytes
      → two_record mark a b ≡ part bytes at 6
  two_part at mark a b e f g h =
      ap₂ ◌++◌ (one_part at mark a e f (omega arith)) (number_part (at + 4) b g (omega arith)) ∙ part_append bytes at 4 2 (at + 4) 6 refl refl

  module _ (facts : Facts) (formed : Formed bytes facts) where
    line_parts : gathered (line_record (line_numbers bytes facts.lines)) facts.lines ≡ part bytes 6 (facts.lines * 6)
    line_parts =
        let m = facts.lines in
        let lines = line_numbers bytes m in
        gathered_part (line_record lines) 6 bytes 6 m
        (λ p h. two_part (6 + p * 6) mark_ln (end_one lines p) (end_two lines p)
        (ap (number_at bytes) (omega arith) ∙ formed.line_marks p h)
        (ap (number_at bytes) (omega arith) ∙ sym (end_one_lem bytes m p h))
        (ap (number_at bytes) (omega arith) ∙ sym (end_two_lem bytes m p h))
        (omega (arith, formed.size)))

    start_parts : gathered (start_record (start_numbers bytes facts.lines facts.starts)) facts.starts ≡ part bytes (6 + 6 * facts.lines) (facts.starts * 4)
    start_parts =
        let m = facts.lines in
        let s = facts.starts in
        let starts = start_numbers bytes m s in
        gathered_part (start_record starts) 4 bytes (6 + 6 * m) s
        (λ q h. one_part (6 + 6 * m + q * 4) mark_rt (get_or starts q 0)
        (ap (number_at bytes) (omega arith) ∙ formed.start_marks q h)
        (ap (number_at bytes) (omega arith) ∙ sym (start_at bytes m s q h))
        (omega (arith, formed.size)))

    formed_written : file_bytes facts.stations facts.level (line_numbers bytes facts.lines) (start_numbers bytes facts.lines facts.starts) ≡ bytes
    unfolding file_bytes
    formed_written =
        let m = facts.lines in
        let s = facts.starts in
        let lines = line_numbers bytes m in
        let starts = start_numbers bytes m s in
        let size = formed.size in
        let half : length lines / 2 ≡ m = omega (arith, length_lines bytes m) in
        let first : two_record mark_nw facts.stations facts.level ≡ part bytes 0 6 =
        two_part 0 mark_nw facts.stations facts.level formed.first formed.is_stations formed.is_level (omega arith) in
        let ends : gathered (line_record lines) (length lines / 2) ≡ part bytes 6 (m * 6) = ap (gathered (line_record lines)) half ∙ line_parts in
        let begins : gathered (start_record starts) (length starts) ≡ part bytes (6 + 6 * m) (s * 4) =
        ap (gathered (start_record starts)) (length_starts bytes m s) ∙ start_parts in
        let last : one_record mark_en (length lines / 2) ≡ part bytes (offset_after m s) 4 =
        ap (one_record mark_en) half ∙ one_part (offset_after m s) mark_en m formed.end_mark formed.end_count (omega arith) in
        let upto_lines = ap₂ ◌++◌ first ends ∙ part_append bytes 0 6 (m * 6) 6 (6 + m * 6) refl refl in
        let upto_starts = ap₂ ◌++◌ upto_lines begins ∙ part_append bytes 0 (6 + m * 6) (s * 4) (6 + 6 * m) (6 + m * 6 + s * 4) (omega arith) refl in
        ap₂ ◌++◌ upto_starts last
        ∙ (part_append bytes 0 (6 + m * 6 + s * 4) 4 (offset_after m s) (offset_after m s + 4) (omega arith) (omega arith)
        ∙ part_all bytes (offset_after m s + 4) (omega arith))

  -- THEOREM. Writing a file's contents gives the same bytes.
  pub written_read : (facts : Facts) → file_read bytes ≡ given facts
      → file_bytes facts.stations facts.level (line_numbers bytes facts.lines) (start_numbers bytes facts.lines facts.starts) ≡ bytes
  written_read facts e = formed_written facts (read_formed bytes facts e)
