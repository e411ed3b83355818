-- What a network file is, and what buffers hold that it was read into. Said of its bytes: "One NW (n, k), any number of LN, any number of RT, one EN (count of LN), in that order".
-- Assumes nothing.
use Rattle.std.specs.Prelude.{ℕ, ◌+◌, ◌*◌, ◌/◌, ◌<◌, ◌≤◌, ◌≡◌, List, length, take}
use Rattle.kinds.specs.Answers.{Answer.given}
use Rattle.reading.specs.Numbers.{number_at, mark_nw, mark_ln, mark_rt, mark_en}
use Rattle.reading.specs.Reading.{Facts, offset_after, file_read, line_numbers, start_numbers}
use Rattle.reading.specs.Answers.{facts_of}
use Rattle.reading.specs.declared.Found.{Found}

-- The bytes are a file with these facts: each mark in its place, within the limits, and nothing after EN.
pub record Formed (bytes : List ℕ) (facts : Facts) : Type 0 where
  pub size : length bytes ≡ offset_after facts.lines facts.starts + 4
  pub few_lines : facts.lines ≤ 8192
  pub few_starts : facts.starts ≤ 16
  pub first : number_at bytes 0 ≡ mark_nw
  pub is_stations : number_at bytes 2 ≡ facts.stations
  pub is_level : number_at bytes 4 ≡ facts.level
  pub line_marks : (p : ℕ) → p < facts.lines → number_at bytes (offset_after p 0) ≡ mark_ln
  pub start_marks : (q : ℕ) → q < facts.starts → number_at bytes (offset_after facts.lines q) ≡ mark_rt
  pub end_mark : number_at bytes (offset_after facts.lines facts.starts) ≡ mark_en
  pub end_count : number_at bytes (offset_after facts.lines facts.starts + 2) ≡ facts.lines

-- What is found in the file of the network of n stations, level k, a line list and starts; and the same as bare facts.
abbrev pub network_found : ℕ → ℕ → List ℕ → List ℕ → Found
network_found n k lines starts = record { stations = n; level = record { 0 = k }; counts = record { lines = length lines / 2; starts = length starts } }

abbrev pub network_facts : ℕ → ℕ → List ℕ → List ℕ → Facts
network_facts n k lines starts = facts_of (network_found n k lines starts)

-- The bytes are a file with these facts, and the buffers begin with its lines and its starts.
pub record ReadInto (bytes : List ℕ) (facts : Facts) (lines starts : List ℕ) : Type 0 where
  pub read : file_read bytes ≡ given facts
  pub few_lines : facts.lines ≤ 8192
  pub few_starts : facts.starts ≤ 16
  pub lines_part : take (2 * facts.lines) lines ≡ line_numbers bytes facts.lines
  pub starts_part : take facts.starts starts ≡ start_numbers bytes facts.lines facts.starts
