-- The rows of reading a file: 5; then record by record 21, 20, 21, 2, 4, 22, 23, each at its record's offset, of list 3.
-- Assumes nothing.
use Rattle.std.specs.Prelude.{ℕ, ◌+◌, ◌<◌, ◌≡◌, ◌≢◌, ◌⊎◌, List, length}
use Rattle.kinds.specs.Rows.{Rows, Row, NoneOf, ◌then_try◌}
use Rattle.limits.specs.Rows.{room_row}
use Rattle.reading.specs.Numbers.{number_at, mark_ln, mark_rt, mark_en}
use Rattle.reading.specs.Reading.{offset_after, order_after, length_here}
use Rattle.reading.specs.declared.Order.{Order}
use Rattle.reading.specs.declared.Order.TheVariants.{First}

-- "Fewer than two bytes left is 21, a wrong mark 20, a short body 21".
abbrev pub record_rows : Order → List ℕ → ℕ → Rows
record_rows order bytes offset =
    Row (length bytes < offset + 2) 21 offset 3
    then_try Row (length_here order (number_at bytes offset) ≡ 0) 20 offset 3
    then_try Row (length bytes < offset + length_here order (number_at bytes offset)) 21 offset 3

-- "The 8,193rd LN is 2, the 17th RT is 4, each when its record is whole": of the record after m LN and s RT.
abbrev pub count_rows : List ℕ → ℕ → ℕ → Rows
count_rows bytes m s =
    Row ((number_at bytes (offset_after m s) ≡ mark_ln) × (m ≡ 8192)) 2 (offset_after m s) 3
    then_try Row ((number_at bytes (offset_after m s) ≡ mark_rt) × (s ≡ 16)) 4 (offset_after m s) 3

abbrev pub next_rows : List ℕ → ℕ → ℕ → Rows
next_rows bytes m s = record_rows (order_after s) bytes (offset_after m s) then_try count_rows bytes m s

-- NW, m LN and s RT were read, none of them refused: the next record is at offset 6 + 6 m + 4 s.
pub data Reached (bytes : List ℕ) : (m s : ℕ) → Type 0 where
  first : NoneOf (record_rows First bytes 0) → Reached bytes 0 0
  line : {m s : ℕ} → Reached bytes m s → NoneOf (next_rows bytes m s) → number_at bytes (offset_after m s) ≡ mark_ln → Reached bytes (m + 1) s
  start : {m s : ℕ} → Reached bytes m s → NoneOf (next_rows bytes m s) → number_at bytes (offset_after m s) ≡ mark_rt → Reached bytes m (s + 1)

-- At EN after m LN and s RT: 22, its count is not the number of LN records; then 23, bytes follow it.
abbrev pub end_rows : List ℕ → ℕ → ℕ → Rows
end_rows bytes m s =
    Row (number_at bytes (offset_after m s + 2) ≢ m) 22 (offset_after m s) 3
    then_try Row (offset_after m s + 4 < length bytes) 23 (offset_after m s + 4) 3

-- The first record that is refused: NW, or the one after m LN and s RT, or EN there.
pub data FileRows (bytes : List ℕ) (number place list : ℕ) : Type 0 where
  first : record_rows First bytes 0 number place list → FileRows bytes number place list
  next : (m s : ℕ) → Reached bytes m s → next_rows bytes m s number place list → FileRows bytes number place list
  end : (m s : ℕ) → Reached bytes m s → NoneOf (next_rows bytes m s) → number_at bytes (offset_after m s) ≡ mark_en → end_rows bytes m s number place list → FileRows bytes number place list

-- "Reading first asks room for 16,384 line numbers and 16 starts (5), then takes records in order".
abbrev pub read_rows : (bytes lines starts : List ℕ) → Rows
read_rows bytes lines starts = room_row ((length lines < 16384) ⊎ (length starts < 16)) then_try FileRows bytes
