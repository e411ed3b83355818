-- What reading says, in the document's numbers; and what its contract allows.
-- Assumes nothing.
use Rattle.std.specs.Prelude.{ℕ, ◌≡◌, List, Result, Ok, Err}
use Rattle.kinds.specs.Answers.{Answer, Answer.given, refusal_answer}
use Rattle.reading.specs.Numbers.{mark_ln, mark_rt, mark_en}
use Rattle.reading.specs.Reading.{Facts, read_answer, lines_after, starts_after}
use Rattle.reading.specs.declared.Found.{Found}
use Rattle.reading.specs.declared.Record.{Record}
use Rattle.reading.specs.declared.Record.TheVariants.{Line, Start, End}
use Rattle.kinds.specs.declared.Refusal.{Refusal}

-- A record by its mark, or its refusal.
abbrev pub record_answer : Result Record Refusal → Answer ℕ
record_answer (Ok Line) = given mark_ln
record_answer (Ok Start) = given mark_rt
record_answer (Ok End) = given mark_en
record_answer (Err r) = refusal_answer r

-- What was found, as bare numbers.
abbrev pub facts_of : Found → Facts
facts_of found = record { stations = found.stations; level = found.level.0; lines = found.counts.lines; starts = found.counts.starts }

-- What reading answers.
abbrev pub reading_answer : Result Found Refusal → Answer Facts
reading_answer (Ok found) = given (facts_of found)
reading_answer (Err r) = refusal_answer r

-- The answer to bytes and two buffers, and what the buffers hold afterwards.
pub record ReadAllows (bytes lines starts : List ℕ) (said : Result Found Refusal) (lines' starts' : List ℕ) : Type 0 where
  pub answer : reading_answer said ≡ read_answer bytes lines starts
  pub new_lines : lines' ≡ lines_after (read_answer bytes lines starts) bytes lines
  pub new_starts : starts' ≡ starts_after (read_answer bytes lines starts) bytes starts
