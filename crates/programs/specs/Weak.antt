-- What the program weak writes of the bytes that it was given.
-- Assumes nothing.
use Rattle.std.specs.Prelude.{ℕ, List}
use Rattle.kinds.specs.Answers.{Answer, Answer.given, Answer.refused}
use Rattle.reading.specs.Reading.{Facts, file_read, line_numbers}
use Rattle.report.specs.Text.{refused_text}
use Rattle.standing.specs.Text.{weak_text}
use Rattle.parting.specs.Standing.{Standing}
use Rattle.weakness.specs.Search.{weak_answer}

-- Of a network whose search answered: whether it stands, or the refusal.
unfoldable pub searched_text : ℕ → ℕ → ℕ → Answer Standing → List ℕ
searched_text n k count (given standing) = weak_text n k count standing
searched_text n k count (refused number place list) = refused_text number place

-- Of a file that was read: its network, or the refusal. The starting stations are not used.
unfoldable pub weak_read_text : List ℕ → Answer Facts → List ℕ
weak_read_text bytes (given facts) =
    searched_text facts.stations facts.level facts.lines (weak_answer facts.stations facts.level (line_numbers bytes facts.lines))
weak_read_text bytes (refused number place list) = refused_text number place

-- Of the bytes of a file.
unfoldable pub weak_output : List ℕ → List ℕ
weak_output bytes = weak_read_text bytes (file_read bytes)
