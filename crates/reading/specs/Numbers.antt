-- Numbers in bytes: 16 bits, low byte first; and the marks of the records as such numbers.
-- Assumes nothing.
use Rattle.std.specs.Prelude.{ℕ, ◌+◌, ◌*◌, ◌/◌, ◌%◌, List, [], ◌∷◌, get_or}

-- The number whose low byte stands at an offset, its high byte after it.
abbrev pub number_at : List ℕ → ℕ → ℕ
number_at bytes offset = get_or bytes offset 0 + 256 * get_or bytes (offset + 1) 0

-- The two bytes of a number.
abbrev pub number_bytes : ℕ → List ℕ
number_bytes number = number % 256 ∷ number / 256 ∷ []

-- NW, the bytes 78 and 87.
abbrev pub mark_nw : ℕ
mark_nw = 22350

-- LN, the bytes 76 and 78.
abbrev pub mark_ln : ℕ
mark_ln = 20044

-- RT, the bytes 82 and 84.
abbrev pub mark_rt : ℕ
mark_rt = 21586

-- EN, the bytes 69 and 78.
abbrev pub mark_en : ℕ
mark_en = 20037
