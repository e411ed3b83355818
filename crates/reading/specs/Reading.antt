-- Reading: what each record's offset holds, the records taken in order, and what the lent buffers get.
-- Assumes nothing.
use Rattle.std.specs.Prelude.{ℕ, zero, suc, ◌+◌, ◌*◌, not, ◌&&◌, ◌||◌, List, [], ◌∷◌, length, ltb, eqb}
use Rattle.laws.specs.Fold.{pick}
use Rattle.kinds.specs.Answers.{Answer, Answer.given, Answer.refused, refuse_if, ◌and_then◌}
use Rattle.limits.specs.Limits.{room_judged}
use Rattle.reading.specs.Numbers.{number_at, mark_nw, mark_ln, mark_rt, mark_en}
use Rattle.reading.specs.Parts.{gathered, placed}
use Rattle.reading.specs.declared.Order.{Order}
use Rattle.reading.specs.declared.Order.TheVariants.{First, Lines, Starts}

-- What reading hands back: n, k, and the counts of lines and starts it found.
pub record Facts : Type 0 where
  pub stations : ℕ
  pub level : ℕ
  pub lines : ℕ
  pub starts : ℕ

-- The offset after NW, m LN records and s RT records.
abbrev pub offset_after : ℕ → ℕ → ℕ
offset_after m s = 6 + 6 * m + 4 * s

-- "The mark decides a record's length: NW and LN 6 bytes, RT and EN 4". Nothing for a mark that the order does not allow here.
unfoldable pub length_here : Order → ℕ → ℕ
length_here First mark = pick (eqb mark mark_nw) 6 0
length_here Lines mark = pick (eqb mark mark_ln) 6 (pick (eqb mark mark_rt || eqb mark mark_en) 4 0)
length_here Starts mark = pick (eqb mark mark_rt || eqb mark mark_en) 4 0

-- "Fewer than two bytes left is 21, a wrong mark 20, a short body 21".
unfoldable pub record_judged : Order → List ℕ → ℕ → Answer (Unit {0})
record_judged order bytes offset =
    refuse_if (ltb (length bytes) (offset + 2)) 21 offset 3
    and_then refuse_if (eqb (length_here order (number_at bytes offset)) 0) 20 offset 3
    and_then refuse_if (ltb (length bytes) (offset + length_here order (number_at bytes offset))) 21 offset 3

-- What the order allows after s RT records.
abbrev pub order_after : ℕ → Order
order_after zero = Lines
order_after (suc s) = Starts

-- "The 8,193rd LN is 2, the 17th RT is 4, each when its record is whole": of the record with this mark after m LN and s RT.
unfoldable pub record_counted : ℕ → ℕ → ℕ → Answer ℕ
record_counted mark m s =
    refuse_if (eqb mark mark_ln && eqb m 8192) 2 (offset_after m s) 3
    and_then refuse_if (eqb mark mark_rt && eqb s 16) 4 (offset_after m s) 3
    and_then given mark

-- The mark of the record after m LN and s RT.
unfoldable pub record_after : List ℕ → ℕ → ℕ → Answer ℕ
record_after bytes m s = record_judged (order_after s) bytes (offset_after m s) and_then record_counted (number_at bytes (offset_after m s)) m s

-- EN after m LN and s RT: its count is the number of LN records, else 22; "22 is tried before 23", that bytes follow EN.
unfoldable pub end_read : List ℕ → ℕ → ℕ → Answer Facts
end_read bytes m s =
    refuse_if (not (eqb (number_at bytes (offset_after m s + 2)) m)) 22 (offset_after m s) 3
    and_then refuse_if (ltb (offset_after m s + 4) (length bytes)) 23 (offset_after m s + 4) 3
    and_then given (record { stations = number_at bytes 2; level = number_at bytes 4; lines = m; starts = s })

-- By the mark of the next record: a refusal is the answer, else what is said after an LN, after an RT, or at EN.
unfoldable pub by_mark : Answer ℕ → Answer Facts → Answer Facts → Answer Facts → Answer Facts
by_mark (refused number place list) line start end = refused number place list
by_mark (given mark) line start end = pick (eqb mark mark_ln) line (pick (eqb mark mark_rt) start end)

-- The records after m LN and s RT, taken in order. `left` bounds how many; with as many as there are bytes, the file ends first.
unfoldable pub records_read : List ℕ → ℕ → ℕ → ℕ → Answer Facts
records_read bytes m s zero = refused 21 (offset_after m s) 3
records_read bytes m s (suc left) =
    by_mark (record_after bytes m s) (records_read bytes (m + 1) s left) (records_read bytes m (s + 1) left) (end_read bytes m s)

-- What the bytes of a file say: NW first, then the records in order.
unfoldable pub file_read : List ℕ → Answer Facts
file_read bytes = record_judged First bytes 0 and_then records_read bytes 0 0 (length bytes)

-- "Reading first asks room for 16,384 line numbers and 16 starts (5)", then takes the records.
unfoldable pub read_answer : List ℕ → List ℕ → List ℕ → Answer Facts
read_answer bytes lines starts = room_judged (ltb (length lines) 16384 || ltb (length starts) 16) and_then file_read bytes

-- The two ends of the LN record number p, which stands at 6 + 6 p.
abbrev pub line_ends : List ℕ → ℕ → List ℕ
line_ends bytes p = number_at bytes (6 + 6 * p + 2) ∷ number_at bytes (6 + 6 * p + 4) ∷ []

-- The ends of the first m LN records, two to a line, in order.
unfoldable pub line_numbers : List ℕ → ℕ → List ℕ
line_numbers bytes m = gathered (line_ends bytes) m

-- The starting station of the RT record number q, after m LN records.
abbrev pub start_station : List ℕ → ℕ → ℕ → List ℕ
start_station bytes m q = number_at bytes (offset_after m q + 2) ∷ []

-- The starting stations of the first s RT records after m LN records.
unfoldable pub start_numbers : List ℕ → ℕ → ℕ → List ℕ
start_numbers bytes m s = gathered (start_station bytes m) s

-- The lines buffer after reading: the ends from the front, later places untouched; all as it was where reading refused.
unfoldable pub lines_after : Answer Facts → List ℕ → List ℕ → List ℕ
lines_after (given facts) bytes lines = placed lines 0 (line_numbers bytes facts.lines)
lines_after (refused number place list) bytes lines = lines

-- The starts buffer after reading, likewise.
unfoldable pub starts_after : Answer Facts → List ℕ → List ℕ → List ℕ
starts_after (given facts) bytes starts = placed starts 0 (start_numbers bytes facts.lines facts.starts)
starts_after (refused number place list) bytes starts = starts
