-- What reading answers follows its rows.
-- The idea: from the record after m LN and s RT on, with as many tries left as there are bytes, so that the file ends first. Assumes nothing.
use Prim.Native.Nat.{ℕ, zero, suc, ◌+◌, ◌-◌, ◌≤◌}
use mathlib.Core.Path.{◌≡◌, refl, sym, ap, ◌∙◌}
use mathlib.Core.Logic.{◌⊎◌, ◌⊎◌.inl, ◌⊎◌.inr}
use mathlib.Core.Bool.{false, true≢false}
use mathlib.Core.List.{List}
use native.Mathlib.Omega.{arith}
use lib.ListN.{length}
use Rattle.laws.proofs.Truth.{or_either, and_both, not_exactly, ltb_exactly, eqb_exactly}
use Rattle.kinds.specs.Answers.{Answer, Answer.given, Answer.refused, taken, is_refused}
use Rattle.kinds.specs.Rows.{Row.because, NoneOf, ◌then_try◌.earlier, Follows}
use Rattle.kinds.proofs.Answers.{then_next, then_cases}
use Rattle.kinds.proofs.Rows.{refusal_row, row_follows, follows_none, then_follows, given_follows}
use Rattle.limits.proofs.Rows.{room_follows}
use Rattle.reading.specs.Numbers.{number_at, mark_ln, mark_rt, mark_en}
use Rattle.reading.specs.Reading.{offset_after, length_here, record_judged, order_after, record_counted, record_after, end_read, by_mark, records_read, file_read, read_answer}
use Rattle.reading.specs.Rows.{record_rows, next_rows, end_rows, Reached, Reached.first as reached_first, Reached.line as reached_line, Reached.start as reached_start, FileRows, FileRows.first, FileRows.next, FileRows.end, read_rows}
use Rattle.reading.specs.declared.Order.{Order}
use Rattle.reading.specs.declared.Order.TheVariants.{First}
use Rattle.reading.proofs.Records.{Kind, Kind.line as is_line, Kind.start as is_start, Kind.end as is_end, next_given}

module _ (bytes : List ℕ) where
  -- One record, the record after m LN and s RT, and EN there.
  record_follows : (order : Order) (offset : ℕ) → Follows (record_judged order bytes offset) (record_rows order bytes offset)
  unfolding record_judged
  record_follows order offset =
      let size = length_here order (number_at bytes offset) in
      then_follows (row_follows (ltb_exactly (length bytes) (offset + 2)))
      (then_follows (row_follows (eqb_exactly size 0)) (row_follows (ltb_exactly (length bytes) (offset + size))))

  next_follows : (m s : ℕ) → Follows (record_after bytes m s) (next_rows bytes m s)
  unfolding record_after record_counted
  next_follows m s =
      let mark = number_at bytes (offset_after m s) in
      then_follows (record_follows (order_after s) (offset_after m s))
      (then_follows (row_follows (and_both (eqb_exactly mark mark_ln) (eqb_exactly m 8192)))
      (given_follows mark (row_follows (and_both (eqb_exactly mark mark_rt) (eqb_exactly s 16)))))

  end_follows : (m s : ℕ) → Follows (end_read bytes m s) (end_rows bytes m s)
  unfolding end_read
  end_follows m s =
      then_follows (row_follows (not_exactly (eqb_exactly (number_at bytes (offset_after m s + 2)) m)))
      (given_follows (record { stations = number_at bytes 2; level = number_at bytes 4; lines = m; starts = s })
      (row_follows (ltb_exactly (offset_after m s + 4) (length bytes))))

  -- Where none of its rows holds, the next record is given by its mark.
  mark_given : (m s mark : ℕ) → NoneOf (next_rows bytes m s) → number_at bytes (offset_after m s) ≡ mark → record_after bytes m s ≡ given mark
  mark_given m s mark none is = go (record_after bytes m s) refl ((follows_none (next_follows m s)).1 none)
    where
      go : (a : Answer ℕ) → record_after bytes m s ≡ a → is_refused a ≡ false → a ≡ given mark
      go (given mark') e passes = ap given (sym (next_given bytes m s mark' e).is ∙ is)
      go (refused number place list) e passes = absurd (true≢false passes)

  -- With as many tries left as there are bytes, the next record decides.
  one_read : (left m s : ℕ) → length bytes ≤ offset_after m s + left
      → records_read bytes m s left ≡ by_mark (record_after bytes m s) (records_read bytes (m + 1) s (left - 1)) (records_read bytes m (s + 1) (left - 1)) (end_read bytes m s)
  unfolding records_read by_mark
  one_read zero m s h = rw ((next_follows m s).exactly.1 (earlier (earlier (because (omega arith)))))
  one_read (suc left) m s h = let less : suc left - 1 ≡ left = omega arith in rw less

  -- Reading comes to the record after m LN and s RT.
  abbrev Comes : ℕ → ℕ → Type 0
  Comes m s = (left : ℕ) × (length bytes ≤ offset_after m s + left) × (file_read bytes ≡ records_read bytes m s left)

  -- There it goes on by the mark, where none of the record's rows holds.
  goes_on : (m s mark : ℕ) (c : Comes m s) → NoneOf (next_rows bytes m s) → number_at bytes (offset_after m s) ≡ mark
      → file_read bytes ≡ by_mark (given mark) (records_read bytes (m + 1) s (c.0 - 1)) (records_read bytes m (s + 1) (c.0 - 1)) (end_read bytes m s)
  goes_on m s mark c none is = c.2 ∙ (one_read c.0 m s c.1 ∙ rw (mark_given m s mark none is))

  -- So it comes to each record that is reached.
  reached_comes : {m s : ℕ} → Reached bytes m s → Comes m s
  unfolding file_read by_mark
  reached_comes (reached_first none) =
      let passes = (follows_none (record_follows First 0)).1 none in
      (length bytes, omega arith, then_next (record_judged First bytes 0) (records_read bytes 0 0 (length bytes)) passes)
  reached_comes (reached_line {m = m} {s = s} r none is) = let c = reached_comes r in (c.0 - 1, omega (arith, c.1), goes_on m s mark_ln c none is)
  reached_comes (reached_start {m = m} {s = s} r none is) = let c = reached_comes r in (c.0 - 1, omega (arith, c.1), goes_on m s mark_rt c none is)

  module _ (number place list : ℕ) where
    -- What a row of the file says is refused.
    row_refused : FileRows bytes number place list → file_read bytes ≡ refused number place list
    unfolding file_read by_mark
    row_refused (first r) = rw ((record_follows First 0).exactly.1 r)
    row_refused (next m s reached r) =
        let (left, h, e) = reached_comes reached in
        e ∙ (one_read left m s h ∙ rw ((next_follows m s).exactly.1 r))
    row_refused (end m s reached none is r) = goes_on m s mark_en (reached_comes reached) none is ∙ (end_follows m s).exactly.1 r

    -- What is refused is a row of the file: of the records after m LN and s RT, and of all.
    abbrev Rest : ℕ → ℕ → ℕ → Type 0
    Rest left m s = Reached bytes m s → length bytes ≤ offset_after m s + left → records_read bytes m s left ≡ refused number place list → FileRows bytes number place list

    rest_row : (left m s : ℕ) → Rest left m s
    unfolding records_read by_mark
    rest_row zero m s reached h e = next m s reached (earlier (earlier (refusal_row e (omega arith))))
    rest_row (suc left) m s reached h e = go (record_after bytes m s) refl (rest_row left (m + 1) s) (rest_row left m (s + 1)) e
      where
        by_kind : (mark size : ℕ) → NoneOf (next_rows bytes m s) → number_at bytes (offset_after m s) ≡ mark → Kind s mark size → Rest left (m + 1) s → Rest left m (s + 1)
            → by_mark (given mark) (records_read bytes (m + 1) s left) (records_read bytes m (s + 1) left) (end_read bytes m s) ≡ refused number place list
            → FileRows bytes number place list
        by_kind mark size none is (is_line z k) line start f = line (reached_line reached none (is ∙ k)) (omega arith) (rw k at f)
        by_kind mark size none is (is_start k) line start f = start (reached_start reached none (is ∙ k)) (omega arith) (rw k at f)
        by_kind mark size none is (is_end k) line start f = end m s reached none (is ∙ k) ((end_follows m s).exactly.0 (rw k at f))

        go : (a : Answer ℕ) → record_after bytes m s ≡ a → Rest left (m + 1) s → Rest left m (s + 1)
            → by_mark a (records_read bytes (m + 1) s left) (records_read bytes m (s + 1) left) (end_read bytes m s) ≡ refused number place list
            → FileRows bytes number place list
        go (refused number' place' list') e line start f = next m s reached ((next_follows m s).exactly.0 cc)
        go (given mark) e line start f =
            let n = next_given bytes m s mark e in
            by_kind mark n.size ((follows_none (next_follows m s)).0 (ap is_refused e)) n.is n.kind line start f

    refused_row : file_read bytes ≡ refused number place list → FileRows bytes number place list
    unfolding file_read
    refused_row e = go (then_cases (record_judged First bytes 0) (records_read bytes 0 0 (length bytes)) e)
      where
        go : (record_judged First bytes 0 ≡ refused number place list)
            ⊎ ((record_judged First bytes 0 ≡ taken) × (records_read bytes 0 0 (length bytes) ≡ refused number place list))
            → FileRows bytes number place list
        go (inl f) = first ((record_follows First 0).exactly.0 f)
        go (inr (t, f)) = rest_row (length bytes) 0 0 (reached_first ((follows_none (record_follows First 0)).0 (ap is_refused t))) (omega arith) f

  -- The records follow the rows of the file.
  file_follows : Follows (file_read bytes) (FileRows bytes)
  file_follows = record { exactly = λ {number} {place} {list}. (refused_row number place list, row_refused number place list) }

-- THEOREM. Reading follows its rows.
pub read_follows : (bytes lines starts : List ℕ) → Follows (read_answer bytes lines starts) (read_rows bytes lines starts)
unfolding read_answer
read_follows bytes lines starts = then_follows (room_follows (or_either (ltb_exactly (length lines) 16384) (ltb_exactly (length starts) 16))) (file_follows bytes)
