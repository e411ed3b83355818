-- A network: stations, and lines in a flat list, two numbers to a line.
-- Assumes nothing.
use Rattle.std.specs.Prelude.{ℕ, ◌+◌, ◌*◌, ◌/◌, ◌<◌, ◌≤◌, ◌≡◌, ◌≢◌, List, length, get_or}

-- The two ends of the line at place p, as written.
abbrev pub end_one : List ℕ → ℕ → ℕ
end_one lines p = get_or lines (2 * p) 0

abbrev pub end_two : List ℕ → ℕ → ℕ
end_two lines p = get_or lines (2 * p + 1) 0

-- The stations are the numbers below `stations`, the lines' places the numbers below `lines`.
pub record Network : Type 0 where
  pub stations : ℕ
  pub lines : ℕ
  pub one : ℕ → ℕ
  pub two : ℕ → ℕ

-- The network of n stations and a flat list of lines.
abbrev pub network : ℕ → List ℕ → Network
network n lines = record { stations = n; lines = length lines / 2; one = end_one lines; two = end_two lines }

-- Line p joins u and v, whichever way round it is written.
pub data Joins (g : Network) (p u v : ℕ) : Type 0 where
  forth : g.one p ≡ u → g.two p ≡ v → Joins g p u v
  back : g.one p ≡ v → g.two p ≡ u → Joins g p u v

-- Every end is a station, and no line joins a station to itself.
pub record Proper (g : Network) : Type 0 where
  pub one_in : (p : ℕ) → p < g.lines → g.one p < g.stations
  pub two_in : (p : ℕ) → p < g.lines → g.two p < g.stations
  pub apart : (p : ℕ) → p < g.lines → g.one p ≢ g.two p

-- Proper, and no two lines have the same two ends, either way round.
pub record Simple (g : Network) : Type 0 where
  pub proper : Proper g
  pub once : (p q u v : ℕ) → p < g.lines → q < g.lines → Joins g p u v → Joins g q u v → p ≡ q

-- The limits of the document: 1 to 1,024 stations, at most 16,384 numbers in the list, two to a line.
pub record Within (n : ℕ) (lines : List ℕ) : Type 0 where
  pub some : 1 ≤ n
  pub most : n ≤ 1024
  pub even : length lines ≡ 2 * (length lines / 2)
  pub few : length lines ≤ 16384
