-- Writing: the bytes of a network, and what writing answers.
-- Assumes nothing.
use Rattle.std.specs.Prelude.{ℕ, ◌+◌, ◌/◌, List, ◌++◌, length, get_or, ltb}
use Rattle.kinds.specs.Answers.{Answer, Answer.given, Answer.refused, ◌and_then◌}
use Rattle.network.specs.Lines.{end_one, end_two}
use Rattle.request.specs.Judging.{request_judged}
use Rattle.reading.specs.Numbers.{number_bytes, mark_nw, mark_ln, mark_rt, mark_en}
use Rattle.reading.specs.Parts.{gathered, placed}
use Rattle.reading.specs.Reading.{offset_after}

-- A record of two numbers after its mark, as NW and LN.
abbrev pub two_record : ℕ → ℕ → ℕ → List ℕ
two_record mark a b = number_bytes mark ++ (number_bytes a ++ number_bytes b)

-- A record of one number after its mark, as RT and EN.
abbrev pub one_record : ℕ → ℕ → List ℕ
one_record mark a = number_bytes mark ++ number_bytes a

-- The LN record of the line at place p.
abbrev pub line_record : List ℕ → ℕ → List ℕ
line_record lines p = two_record mark_ln (end_one lines p) (end_two lines p)

-- The RT record of the starting station at index q.
abbrev pub start_record : List ℕ → ℕ → List ℕ
start_record starts q = one_record mark_rt (get_or starts q 0)

-- The bytes of a network: NW (n, k), an LN for each line, an RT for each start, EN (count of LN).
unfoldable pub file_bytes : ℕ → ℕ → List ℕ → List ℕ → List ℕ
file_bytes n k lines starts =
    ((two_record mark_nw n k ++ gathered (line_record lines) (length lines / 2)) ++ gathered (start_record starts) (length starts)) ++ one_record mark_en (length lines / 2)

-- How many bytes a network with these lists takes.
abbrev pub file_length : List ℕ → List ℕ → ℕ
file_length lines starts = offset_after (length lines / 2) (length starts) + 4

-- "Writing refuses as pruning does, with its byte buffer as the only room"; else it answers how many bytes it wrote.
unfoldable pub write_answer : ℕ → ℕ → List ℕ → List ℕ → List ℕ → Answer ℕ
write_answer n k lines starts bytes =
    request_judged n k lines starts (ltb (length bytes) (file_length lines starts)) and_then given (file_length lines starts)

-- The byte buffer after writing: the file from the front, later bytes untouched; all as it was where writing refused.
unfoldable pub bytes_after : Answer ℕ → ℕ → ℕ → List ℕ → List ℕ → List ℕ → List ℕ
bytes_after (given count) n k lines starts bytes = placed bytes 0 (file_bytes n k lines starts)
bytes_after (refused number place list) n k lines starts bytes = bytes
