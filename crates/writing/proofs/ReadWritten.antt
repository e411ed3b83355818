-- Reading what was written gives the same network.
-- The idea: each number of the file stands at its record's offset, so the bytes are a file with the network's facts. Assumes nothing.
use Prim.Native.Nat.{ℕ, ◌+◌, ◌*◌, ◌/◌, ◌<◌}
use mathlib.Core.Path.{◌≡◌, refl, sym, ap, ap₂, ◌∙◌}
use mathlib.Core.Bool.{Bool}
use mathlib.Core.List.{List, [], ◌∷◌, ◌++◌}
use native.Mathlib.Omega.{arith}
use lib.ListN.{length, get_or, length-append, get_or-append}
use lib.Seq.{get_or-append-add}
use Rattle.kinds.specs.Answers.{Answer.given}
use Rattle.network.specs.Lines.{end_one, end_two}
use Rattle.request.specs.Requests.{Request}
use Rattle.reading.specs.Numbers.{number_at, mark_nw, mark_en}
use Rattle.reading.specs.Parts.{gathered}
use Rattle.reading.specs.Reading.{offset_after, line_ends, line_numbers, start_station, start_numbers, file_read}
use Rattle.writing.specs.Writing.{two_record, one_record, line_record, start_record, file_bytes, file_length}
use Rattle.reading.specs.Files.{Formed, network_facts}
use Rattle.writing.proofs.Slices.{part_all, part_one, part_two, gathered_part, get_d_gathered}
use Rattle.reading.proofs.Files.{formed_read}
use Rattle.writing.proofs.Written.{up_to_lines, up_to_starts, length_to_lines, length_to_starts}

-- The number at an offset in the first of two lists, in the second, and in gathered parts of one size.
number_left : (a b : List ℕ) (at : ℕ) → at + 1 < length a → number_at (a ++ b) at ≡ number_at a at
number_left a b at h = ap₂ (λ (x y : ℕ). x + 256 * y) (get_or-append a b 0 at (omega arith)) (get_or-append a b 0 (at + 1) h)

number_right : (a b : List ℕ) (index at i : ℕ) → length a ≡ index → index + i ≡ at → number_at (a ++ b) at ≡ number_at b i
number_right a b index at i e f =
    let l : at ≡ length a + i = omega arith in
    let r : at + 1 ≡ length a + (i + 1) = omega arith in
    ap₂ (λ (x y : ℕ). x + 256 * y)
    (ap (λ (x : ℕ). get_or (a ++ b) x 0) l ∙ get_or-append-add a b i 0)
    (ap (λ (x : ℕ). get_or (a ++ b) x 0) r ∙ get_or-append-add a b (i + 1) 0)

number_gathered : (f : ℕ → List ℕ) (size : ℕ) → ((j : ℕ) → length (f j) ≡ size) → (count j i at : ℕ) → j < count → i + 1 < size → j * size + i ≡ at
    → number_at (gathered f count) at ≡ number_at (f j) i
number_gathered f size same count j i at h l e =
    let r : at + 1 ≡ j * size + (i + 1) = omega arith in
    ap₂ (λ (x y : ℕ). x + 256 * y)
    (ap (λ (x : ℕ). get_or (gathered f count) x 0) (sym e) ∙ get_d_gathered f size same count j i h (omega arith))
    (ap (λ (x : ℕ). get_or (gathered f count) x 0) r ∙ get_d_gathered f size same count j (i + 1) h l)

-- The number i bytes into each record of the file of a network.
module _ (n k : ℕ) (lines starts : List ℕ) where
  pub length_file : length (file_bytes n k lines starts) ≡ file_length lines starts
  unfolding file_bytes
  length_file = omega (arith, length-append (up_to_starts n k lines starts) (one_record mark_en (length lines / 2)), length_to_starts n k lines starts)

  -- before EN, and before the RT records
  before_end : (at : ℕ) → at + 1 < offset_after (length lines / 2) (length starts) → number_at (file_bytes n k lines starts) at ≡ number_at (up_to_starts n k lines starts) at
  unfolding file_bytes
  before_end at h = number_left (up_to_starts n k lines starts) (one_record mark_en (length lines / 2)) at (omega (arith, length_to_starts n k lines starts))

  before_starts : (at : ℕ) → at + 1 < 6 + 6 * (length lines / 2) → number_at (file_bytes n k lines starts) at ≡ number_at (up_to_lines n k lines starts) at
  before_starts at h =
      before_end at (omega arith)
      ∙ number_left (up_to_lines n k lines starts) (gathered (start_record starts) (length starts)) at (omega (arith, length_to_lines n k lines starts))

  first_number : (i : ℕ) → i + 1 < 6 → number_at (file_bytes n k lines starts) i ≡ number_at (two_record mark_nw n k) i
  first_number i l = before_starts i (omega arith) ∙ number_left (two_record mark_nw n k) (gathered (line_record lines) (length lines / 2)) i l

  line_number : (p i at : ℕ) → p < length lines / 2 → i + 1 < 6 → 6 + (p * 6 + i) ≡ at → number_at (file_bytes n k lines starts) at ≡ number_at (line_record lines p) i
  line_number p i at h l e =
      let m = length lines / 2 in
      before_starts at (omega arith)
      ∙ (number_right (two_record mark_nw n k) (gathered (line_record lines) m) 6 at (p * 6 + i) refl e
      ∙ number_gathered (line_record lines) 6 (λ j. refl) m p i (p * 6 + i) h l refl)

  start_number : (q i at : ℕ) → q < length starts → i + 1 < 4 → 6 + 6 * (length lines / 2) + (q * 4 + i) ≡ at
      → number_at (file_bytes n k lines starts) at ≡ number_at (start_record starts q) i
  start_number q i at h l e =
      let s = length starts in
      let begin = 6 + 6 * (length lines / 2) in
      before_end at (omega arith)
      ∙ (number_right (up_to_lines n k lines starts) (gathered (start_record starts) s) begin at (q * 4 + i) (length_to_lines n k lines starts) e
      ∙ number_gathered (start_record starts) 4 (λ j. refl) s q i (q * 4 + i) h l refl)

  end_number : (i at : ℕ) → offset_after (length lines / 2) (length starts) + i ≡ at → number_at (file_bytes n k lines starts) at ≡ number_at (one_record mark_en (length lines / 2)) i
  unfolding file_bytes
  end_number i at e =
      let m = length lines / 2 in
      number_right (up_to_starts n k lines starts) (one_record mark_en m) (offset_after m (length starts)) at i (length_to_starts n k lines starts) e

  written_formed : (short : Bool) → Request n k lines starts short → Formed (file_bytes n k lines starts) (network_facts n k lines starts)
  written_formed short request =
      let few = request.sized.within.few in
      let count = request.sized.starts_count in
      let most = request.sized.most in
      record {
        size = length_file;
        few_lines = omega arith;
        few_starts = omega arith;
        first = first_number 0 (omega arith);
        is_stations = first_number 2 (omega arith) ∙ omega arith;
        is_level = first_number 4 (omega arith) ∙ omega arith;
        line_marks = λ p h. line_number p 0 (offset_after p 0) h (omega arith) (omega arith);
        start_marks = λ q h. start_number q 0 (offset_after (length lines / 2) q) h (omega arith) (omega arith);
        end_mark = end_number 0 (offset_after (length lines / 2) (length starts)) (omega arith);
        end_count = end_number 2 (offset_after (length lines / 2) (length starts) + 2) refl ∙ omega arith;
      }

  written_lines : length lines ≡ 2 * (length lines / 2) → line_numbers (file_bytes n k lines starts) (length lines / 2) ≡ lines
  unfolding line_numbers
  written_lines even =
      let bytes = file_bytes n k lines starts in
      let m = length lines / 2 in
      gathered_part (line_ends bytes) 2 lines 0 m
      (λ p h. ap₂ (λ (x y : ℕ). x ∷ y ∷ [])
      (line_number p 2 (6 + 6 * p + 2) h (omega arith) (omega arith) ∙ (ends_one p ∙ ap (λ (x : ℕ). get_or lines x 0) (omega arith)))
      (line_number p 4 (6 + 6 * p + 4) h (omega arith) (omega arith) ∙ (ends_two p ∙ ap (λ (x : ℕ). get_or lines x 0) (omega arith)))
      ∙ part_two lines (0 + p * 2) (omega arith))
      ∙ part_all lines (m * 2) (omega arith)
    where
      ends_one : (p : ℕ) → number_at (line_record lines p) 2 ≡ end_one lines p
      ends_one p = omega arith

      ends_two : (p : ℕ) → number_at (line_record lines p) 4 ≡ end_two lines p
      ends_two p = omega arith

  written_starts : start_numbers (file_bytes n k lines starts) (length lines / 2) (length starts) ≡ starts
  unfolding start_numbers
  written_starts =
      let bytes = file_bytes n k lines starts in
      let m = length lines / 2 in
      gathered_part (start_station bytes m) 1 starts 0 (length starts)
      (λ q h. ap (λ (x : ℕ). x ∷ [])
      (start_number q 2 (offset_after m q + 2) h (omega arith) (omega arith) ∙ (start_of q ∙ ap (λ (x : ℕ). get_or starts x 0) (omega arith)))
      ∙ part_one starts (0 + q * 1) (omega arith))
      ∙ part_all starts (length starts * 1) (omega arith)
    where
      start_of : (q : ℕ) → number_at (start_record starts q) 2 ≡ get_or starts q 0
      start_of q = omega arith

  -- THEOREM. Reading what was written gives the same network: n, k, the lines and the starts.
  pub read_written : (short : Bool) → Request n k lines starts short
      → (file_read (file_bytes n k lines starts) ≡ given (network_facts n k lines starts))
      × (line_numbers (file_bytes n k lines starts) (length lines / 2) ≡ lines)
      × (start_numbers (file_bytes n k lines starts) (length lines / 2) (length starts) ≡ starts)
  read_written short request =
      (formed_read (file_bytes n k lines starts) (network_facts n k lines starts) (written_formed short request), written_lines request.sized.within.even, written_starts)
