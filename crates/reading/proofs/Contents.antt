-- The laws of the numbers that reading copies, one record at a time.
-- Assumes nothing.
use Prim.Native.Nat.{ℕ, ◌+◌, ◌*◌, ◌≤◌}
use mathlib.Core.Path.{◌≡◌, refl}
use mathlib.Core.List.{List}
use native.Mathlib.Omega.{arith}
use borrow.Author.Tests.{le-ltb}
use lib.ListN.{length}
use Rattle.limits.specs.Limits.{room_judged}
use Rattle.reading.specs.Parts.{placed}
use Rattle.reading.specs.Reading.{line_ends, line_numbers, start_station, start_numbers, file_read, read_answer}
use Rattle.reading.proofs.Parts.{length_gathered, gathered_none, gathered_next}

module _ (bytes : List ℕ) where
  pub length_lines : (m : ℕ) → length (line_numbers bytes m) ≡ 2 * m
  unfolding line_numbers
  length_lines m = omega (arith, length_gathered (line_ends bytes) 2 (λ p. refl) m)

  pub length_starts : (m s : ℕ) → length (start_numbers bytes m s) ≡ s
  unfolding start_numbers
  length_starts m s = omega (arith, length_gathered (start_station bytes m) 1 (λ q. refl) s)

  -- before any record is copied
  pub lines_none : (lines : List ℕ) → lines ≡ placed lines 0 (line_numbers bytes 0)
  unfolding line_numbers
  lines_none lines = gathered_none (line_ends bytes) lines 0

  pub starts_none : (m : ℕ) (starts : List ℕ) → starts ≡ placed starts 0 (start_numbers bytes m 0)
  unfolding start_numbers
  starts_none m starts = gathered_none (start_station bytes m) starts 0

  -- one record more
  pub lines_more : (lines : List ℕ) (p : ℕ) → placed (placed lines 0 (line_numbers bytes p)) (2 * p) (line_ends bytes p) ≡ placed lines 0 (line_numbers bytes (p + 1))
  unfolding line_numbers
  lines_more lines p = gathered_next (line_ends bytes) 2 (λ p. refl) lines 0 (2 * p) p (omega arith) (omega arith)

  pub starts_more : (starts : List ℕ) (m q : ℕ)
      → placed (placed starts 0 (start_numbers bytes m q)) q (start_station bytes m q) ≡ placed starts 0 (start_numbers bytes m (q + 1))
  unfolding start_numbers
  starts_more starts m q = gathered_next (start_station bytes m) 1 (λ q. refl) starts 0 q q (omega arith) (omega arith)

-- Where there is room, reading answers what the bytes say.
pub read_room : (bytes lines starts : List ℕ) → 16384 ≤ length lines → 16 ≤ length starts → read_answer bytes lines starts ≡ file_read bytes
unfolding read_answer room_judged
read_room bytes lines starts l s = rw (le-ltb (length lines) 16384 l, le-ltb (length starts) 16 s)
