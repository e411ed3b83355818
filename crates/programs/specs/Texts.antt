-- What a program's text routine may answer, and leave in its buffer.
-- Assumes nothing.
use Rattle.std.specs.Prelude.{ℕ, ◌≡◌, List, length, ltb, Result}
use Rattle.report.specs.Answers.{written_answer, written_over}
use Rattle.report.specs.declared.TooShort.{TooShort}

-- The answer to a buffer that is to hold an output and needs `room` bytes, and what it holds afterwards.
pub record TextAllows (room : ℕ) (output text : List ℕ) (said : Result ℕ TooShort) (text' : List ℕ) : Type 0 where
  pub answer : said ≡ written_answer (ltb (length text) room) output
  pub new_text : text' ≡ written_over (ltb (length text) room) output text
