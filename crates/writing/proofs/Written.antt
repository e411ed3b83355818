-- The laws of writing: the records put in one after the other are the file, and the room it takes.
-- Assumes nothing.
use Prim.Native.Nat.{ℕ, ◌+◌, ◌*◌, ◌-◌, ◌/◌, ◌<◌, ◌≤◌}
use mathlib.Core.Path.{◌≡◌, refl, sym, ◌∙◌}
use mathlib.Core.List.{List, ◌++◌}
use native.Mathlib.Omega.{arith}
use native.Mathlib.Decide.{dec_lt}
use borrow.Author.Tests.{lt-ltb, le-ltb}
use lib.ListN.{length, length-append}
use lib.Dec.{ltb}
use Rattle.reading.specs.Numbers.{mark_nw, mark_en}
use Rattle.reading.specs.Parts.{gathered, placed}
use Rattle.reading.specs.Reading.{offset_after}
use Rattle.writing.specs.Writing.{two_record, one_record, line_record, start_record, file_bytes}
use Rattle.reading.proofs.Parts.{length_gathered, placed_after}

module _ (n k : ℕ) (lines starts : List ℕ) where
  -- The file up to its last LN record, and up to its last RT record.
  abbrev pub up_to_lines : List ℕ
  up_to_lines = two_record mark_nw n k ++ gathered (line_record lines) (length lines / 2)

  abbrev pub up_to_starts : List ℕ
  up_to_starts = up_to_lines ++ gathered (start_record starts) (length starts)

  pub length_to_lines : length up_to_lines ≡ 6 + 6 * (length lines / 2)
  length_to_lines =
      let m = length lines / 2 in
      omega (arith, length-append (two_record mark_nw n k) (gathered (line_record lines) m), length_gathered (line_record lines) 6 (λ p. refl) m)

  pub length_to_starts : length up_to_starts ≡ offset_after (length lines / 2) (length starts)
  length_to_starts =
      let s = length starts in
      omega (arith, length-append up_to_lines (gathered (start_record starts) s), length_to_lines, length_gathered (start_record starts) 4 (λ q. refl) s)

  -- NW at 0, the LN records after it, the RT records after those, and EN are the file.
  pub file_placed : (bytes : List ℕ)
      → placed
      (placed
      (placed (placed bytes 0 (two_record mark_nw n k)) 6 (gathered (line_record lines) (length lines / 2)))
      (6 + 6 * (length lines / 2))
      (gathered (start_record starts) (length starts)))
      (offset_after (length lines / 2) (length starts))
      (one_record mark_en (length lines / 2))
      ≡ placed bytes 0 (file_bytes n k lines starts)
  unfolding file_bytes
  file_placed bytes =
      let m = length lines / 2 in
      rw (
        placed_after bytes (two_record mark_nw n k) (gathered (line_record lines) m) 0 6 (omega arith) refl,
        placed_after bytes up_to_lines (gathered (start_record starts) (length starts)) 0 (6 + 6 * m) (omega arith) (omega (arith, length_to_lines)),
        placed_after bytes up_to_starts (one_record mark_en m) 0 (offset_after m (length starts)) (omega arith) (omega (arith, length_to_starts)),
      )

-- Where EN and the LN records have room, the RT records decide.
pub short_starts : (room m s : ℕ) → 10 ≤ room → m ≤ (room - 10) / 6 → ltb ((room - 10 - 6 * m) / 4) s ≡ ltb room (offset_after m s + 4)
short_starts room m s h l = go (dec_lt room (offset_after m s + 4))
  where
    go : Dec (room < offset_after m s + 4) → ltb ((room - 10 - 6 * m) / 4) s ≡ ltb room (offset_after m s + 4)
    go (yes a) = lt-ltb ((room - 10 - 6 * m) / 4) s (omega arith) ∙ sym (lt-ltb room (offset_after m s + 4) a)
    go (no a) = le-ltb ((room - 10 - 6 * m) / 4) s (omega arith) ∙ sym (le-ltb room (offset_after m s + 4) (omega arith))
