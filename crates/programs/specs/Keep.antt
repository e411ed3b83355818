-- What the program keep writes of the bytes that it was given.
-- Assumes nothing.
use Rattle.std.specs.Prelude.{ℕ, List}
use Rattle.kinds.specs.Answers.{Answer, Answer.given, Answer.refused}
use Rattle.prune.specs.Pruning.{prune_answer}
use Rattle.rule.specs.Rounds.{pruned}
use Rattle.reading.specs.Reading.{Facts, file_read, line_numbers, start_numbers}
use Rattle.report.specs.Text.{keep_text, refused_text}

-- Of a network whose pruning answered: the kept lines, or the refusal.
unfoldable pub pruned_text : ℕ → ℕ → List ℕ → List ℕ → Answer ℕ → List ℕ
pruned_text n k lines starts (given kept) = keep_text n k lines (pruned n k lines starts).ranks kept
pruned_text n k lines starts (refused number place list) = refused_text number place

-- Of a network: pruned with room for 8,192 ranks and 16,384 numbers of orders, which is enough for every network that is taken.
unfoldable pub network_text : ℕ → ℕ → List ℕ → List ℕ → List ℕ
network_text n k lines starts = pruned_text n k lines starts (prune_answer n k lines starts 8192 16384)

-- Of a file that was read: its network, or the refusal.
unfoldable pub read_text : List ℕ → Answer Facts → List ℕ
read_text bytes (given facts) =
    network_text facts.stations facts.level (line_numbers bytes facts.lines) (start_numbers bytes facts.lines facts.starts)
read_text bytes (refused number place list) = refused_text number place

-- Of the bytes of a file.
unfoldable pub keep_output : List ℕ → List ℕ
keep_output bytes = read_text bytes (file_read bytes)
