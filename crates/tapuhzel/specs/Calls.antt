-- What each routine of the C face answers and leaves behind, all of it in one value, made of what it is given. A routine's contract says that its
-- results are this value. Assumes nothing.
use Rattle.std.specs.Prelude.{ℕ, List, length, get_or, ltb}
use Rattle.kinds.specs.Answers.{Answer}
use Rattle.network.specs.Judging.{list_judged}
use Rattle.kept.specs.Kept.{kept_lines, copy_answer, after}
use Rattle.prune.specs.Pruning.{prune_answer}
use Rattle.rule.specs.Rounds.{pruned}
use Rattle.unite.specs.Union.{united, union_answer}
use Rattle.joined.specs.Asking.{joined_answer}
use Rattle.plans.specs.Checking.{check_answer}
use Rattle.weakness.specs.Search.{weak_answer}
use Rattle.reading.specs.Reading.{read_answer, lines_after, starts_after}
use Rattle.writing.specs.Writing.{write_answer, bytes_after}
use Rattle.report.specs.Answers.{written_answer, written_over}
use Rattle.codes.specs.Codes.{number_said, place_said, list_said, count_said, joined_said, kind_said, round_said, fault_place_said, weak_said, spot_said, one_said, two_said, stations_said, level_said, lines_said, starts_said, written_number, written_count}

-- A refusal's number, place and list; 0 where there is none.
abbrev pub said : {A : Type 0} → Answer A → ℕ × ℕ × ℕ
said answer = (number_said answer, place_said answer, list_said answer)

abbrev pub judge_call : ℕ → List ℕ → ℕ × ℕ × ℕ
judge_call n lines = said (list_judged 0 n lines)

-- The count of kept lines, the ranks, the orders.
abbrev pub prune_call : ℕ → ℕ → (lines starts ranks orders : List ℕ) → (ℕ × ℕ × ℕ) × ℕ × List ℕ × List ℕ
prune_call n level lines starts ranks orders =
    let answer = prune_answer n level lines starts (length ranks) (length orders) in
    (said answer, count_said answer, after answer (pruned n level lines starts).ranks ranks, after answer (pruned n level lines starts).orders orders)

-- The count of lines, the room.
abbrev pub copy_call : (lines ranks room : List ℕ) → (ℕ × ℕ × ℕ) × ℕ × List ℕ
copy_call lines ranks room =
    let answer = copy_answer lines ranks (length room) in
    (said answer, count_said answer, after answer (kept_lines lines ranks) room)

abbrev pub unite_call : ℕ → (first second room : List ℕ) → (ℕ × ℕ × ℕ) × ℕ × List ℕ
unite_call n first second room =
    let answer = union_answer n first second (length room) in
    (said answer, count_said answer, after answer (united first second) room)

-- Whether the two stations are joined.
abbrev pub joined_call : ℕ → (lines away : List ℕ) → (one two : ℕ) → (ℕ × ℕ × ℕ) × ℕ
joined_call n lines away one two =
    let answer = joined_answer n lines away one two in
    (said answer, joined_said answer)

-- The fault's kind, its round, its own place.
abbrev pub check_call : ℕ → ℕ → (lines ranks orders : List ℕ) → (ℕ × ℕ × ℕ) × ℕ × ℕ × ℕ
check_call n level lines ranks orders =
    let answer = check_answer n level lines ranks orders in
    (said answer, kind_said answer, round_said answer, fault_place_said answer)

-- Whether there is a weak spot; how many stations it has, its first and its second; the two stations that it parts.
abbrev pub weak_call : ℕ → ℕ → List ℕ → (ℕ × ℕ × ℕ) × ℕ × ℕ × ℕ × ℕ × ℕ × ℕ
weak_call n level lines =
    let answer = weak_answer n level lines in
    (said answer, weak_said answer, length (spot_said answer), get_or (spot_said answer) 0 0, get_or (spot_said answer) 1 0, one_said answer, two_said answer)

-- The count of stations, the level, the counts of lines and of starts; the two buffers.
abbrev pub read_call : (bytes lines starts : List ℕ) → (ℕ × ℕ × ℕ) × ℕ × ℕ × ℕ × ℕ × List ℕ × List ℕ
read_call bytes lines starts =
    let answer = read_answer bytes lines starts in
    (said answer, stations_said answer, level_said answer, lines_said answer, starts_said answer, lines_after answer bytes lines, starts_after answer bytes starts)

-- The count of bytes, the buffer.
abbrev pub write_call : ℕ → ℕ → (lines starts bytes : List ℕ) → (ℕ × ℕ × ℕ) × ℕ × List ℕ
write_call n level lines starts bytes =
    let answer = write_answer n level lines starts bytes in
    (said answer, count_said answer, bytes_after answer n level lines starts bytes)

-- Of a text that needs `room` bytes: 0 or refusal 5, the count of bytes, the buffer.
abbrev pub text_call : ℕ → (output text : List ℕ) → ℕ × ℕ × List ℕ
text_call room output text =
    let short = ltb (length text) room in
    (written_number (written_answer short output), written_count (written_answer short output), written_over short output text)
