-- What writing a text answers, and what it leaves in the buffer.
-- Assumes nothing.
use Rattle.std.specs.Prelude.{ℕ, ◌+◌, ◌*◌, ◌/◌, Bool, ◌||◌, List, ◌++◌, length, drop, ltb, Result, Ok, Err}
use Rattle.laws.specs.Fold.{pick}
use Rattle.report.specs.declared.TooShort.{TooShort}

-- Whether a buffer has too little room for what keep writes: 128 bytes for the header, 64 for each line. No room is enough for a list of over 16,384 numbers.
unfoldable pub keep_short : List ℕ → ℕ → Bool
keep_short lines room = ltb 16384 (length lines) || ltb room (128 + 64 * (length lines / 2))

-- Whether a buffer has too little room for a refusal's row.
unfoldable pub refused_short : ℕ → Bool
refused_short room = ltb room 64

-- The number of bytes written, or that the buffer is too short.
abbrev pub written_answer : Bool → List ℕ → Result ℕ TooShort
written_answer short text = pick short (Err record {}) (Ok (length text))

-- The buffer after it: written from the front, later places untouched; as it was where it is too short.
abbrev pub written_over : Bool → List ℕ → List ℕ → List ℕ
written_over short text old = pick short old (text ++ drop (length text) old)
