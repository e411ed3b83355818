-- How an answer crosses to C: a number, 0 for what is not refused, and the refusal's place and list, 0 otherwise.
-- Assumes nothing.
use Rattle.std.specs.Prelude.{ℕ, Bool, true, false, List, [], Result, Ok, Err}
use Rattle.kinds.specs.Answers.{Answer, Answer.given, Answer.refused}
use Rattle.reading.specs.Reading.{Facts}
use Rattle.report.specs.declared.TooShort.{TooShort}
use Rattle.parting.specs.Standing.{Standing, Standing.stands, Standing.weak}
use Rattle.plans.specs.Verdicts.{Kind, Kind.A, Kind.B, Kind.C, Kind.D, Kind.E, Verdict, Verdict.accepted, Verdict.faulty}

abbrev pub number_said : {A : Type 0} → Answer A → ℕ
number_said (given value) = 0
number_said (refused number place list) = number

abbrev pub place_said : {A : Type 0} → Answer A → ℕ
place_said (given value) = 0
place_said (refused number place list) = place

abbrev pub list_said : {A : Type 0} → Answer A → ℕ
list_said (given value) = 0
list_said (refused number place list) = list

-- The count that an answer gives, 0 where it is refused.
abbrev pub count_said : Answer ℕ → ℕ
count_said (given count) = count
count_said (refused number place list) = 0

-- 1 where two stations are joined, 0 where they are not or the question is refused.
abbrev pub joined_said : Answer Bool → ℕ
joined_said (given true) = 1
joined_said (given false) = 0
joined_said (refused number place list) = 0

-- The kinds of a fault, 1 for A to 5 for E; 0 where there is none.
abbrev pub letter_number : Kind → ℕ
letter_number A = 1
letter_number B = 2
letter_number C = 3
letter_number D = 4
letter_number E = 5

abbrev pub kind_said : Answer Verdict → ℕ
kind_said (given accepted) = 0
kind_said (given (faulty round kind place)) = letter_number kind
kind_said (refused number place list) = 0

-- A fault's round and its own place, 0 where there is none.
abbrev pub round_said : Answer Verdict → ℕ
round_said (given accepted) = 0
round_said (given (faulty round kind place)) = round
round_said (refused number place list) = 0

abbrev pub fault_place_said : Answer Verdict → ℕ
fault_place_said (given accepted) = 0
fault_place_said (given (faulty round kind place)) = place
fault_place_said (refused number place list) = 0

-- 1 where a weak spot is found, 0 where the network stands or the search is refused.
abbrev pub weak_said : Answer Standing → ℕ
weak_said (given stands) = 0
weak_said (given (weak spot a b)) = 1
weak_said (refused number place list) = 0

-- The stations of the weak spot, none where there is none.
abbrev pub spot_said : Answer Standing → List ℕ
spot_said (given stands) = []
spot_said (given (weak spot a b)) = spot
spot_said (refused number place list) = []

-- The two stations that a weak spot parts, 0 where there is none.
abbrev pub one_said : Answer Standing → ℕ
one_said (given stands) = 0
one_said (given (weak spot a b)) = a
one_said (refused number place list) = 0

abbrev pub two_said : Answer Standing → ℕ
two_said (given stands) = 0
two_said (given (weak spot a b)) = b
two_said (refused number place list) = 0

-- What reading found in a file, 0 where it is refused.
abbrev pub stations_said : Answer Facts → ℕ
stations_said (given facts) = facts.stations
stations_said (refused number place list) = 0

abbrev pub level_said : Answer Facts → ℕ
level_said (given facts) = facts.level
level_said (refused number place list) = 0

abbrev pub lines_said : Answer Facts → ℕ
lines_said (given facts) = facts.lines
lines_said (refused number place list) = 0

abbrev pub starts_said : Answer Facts → ℕ
starts_said (given facts) = facts.starts
starts_said (refused number place list) = 0

-- A text that was written, or refusal 5 where its buffer is too short.
abbrev pub written_number : Result ℕ TooShort → ℕ
written_number (Ok count) = 0
written_number (Err short) = 5

abbrev pub written_count : Result ℕ TooShort → ℕ
written_count (Ok count) = count
written_count (Err short) = 0
