-- What is seen of a round's lines, by position: tables filled line by line, in which each station's earliest earlier neighbour is found; and
-- the trees that follow from it.
-- Only the helpers speak of it. Assumes nothing.
use Rattle.std.specs.Prelude.{ℕ, ◌/◌, ◌<◌, ◌≡◌, Bool, true, false, List, length, get_or, set, ltb}
use Rattle.laws.specs.Fold.{pick, up_to}
use Rattle.network.specs.Lines.{end_one, end_two}
use Rattle.plans.specs.Checking.{in_play, of_rank}

-- Of each position: that of the earliest earlier neighbour in play seen so far (itself where there is none), whether the line to it
-- has the round's rank, and whether another line of that rank leads to an earlier station.
pub record Seen : Type 0 where
  pub earliest : List ℕ
  pub parents : List Bool
  pub others : List Bool

abbrev pub seen : List ℕ → List Bool → List Bool → Seen
seen earliest parents others = record { earliest = earliest; parents = parents; others = others }

-- No line is seen yet.
pub record Blank (n : ℕ) (s : Seen) : Type 0 where
  pub earliest_size : length s.earliest ≡ n
  pub parents_size : length s.parents ≡ n
  pub others_size : length s.others ≡ n
  pub alone : (j : ℕ) → j < n → get_or s.earliest j 0 ≡ j
  pub no_parent : (j : ℕ) → j < n → get_or s.parents j false ≡ false
  pub no_other : (j : ℕ) → j < n → get_or s.others j false ≡ false

-- The tables have an entry for each position, and positions are below their number.
pub record Fitting (positions : List ℕ) (s : Seen) : Type 0 where
  pub position : (v : ℕ) → v < length positions → get_or positions v 0 < length positions
  pub earliest_size : length s.earliest ≡ length positions
  pub parents_size : length s.parents ≡ length positions
  pub others_size : length s.others ≡ length positions

-- A line in play between two positions, seen from the later one. `taken` says whether it has the round's rank.
unfoldable pub see_from : (later earlier : ℕ) → Bool → Seen → Seen
see_from later earlier taken s =
    pick (ltb earlier (get_or s.earliest later 0))
    (seen (set s.earliest later earlier) (set s.parents later taken) (pick (get_or s.parents later false) (set s.others later true) s.others))
    (seen s.earliest s.parents (pick taken (set s.others later true) s.others))

-- Whichever of the two positions is the later.
unfoldable pub see_between : ℕ → ℕ → Bool → Seen → Seen
see_between x y taken s = pick (ltb x y) (see_from y x taken s) (see_from x y taken s)

-- The line at place p, if it is in play.
unfoldable pub see_line : List ℕ → List ℕ → ℕ → List ℕ → ℕ → Seen → Seen
see_line lines ranks i positions p s =
    pick (in_play ranks i p) (see_between (get_or positions (end_one lines p) 0) (get_or positions (end_two lines p) 0) (of_rank ranks i p) s) s

-- All lines.
unfoldable pub see_lines : List ℕ → List ℕ → ℕ → List ℕ → Seen → Seen
see_lines lines ranks i positions s = up_to (see_line lines ranks i positions) s (length lines / 2)

-- The tree at position j: that of its earliest earlier neighbour in play, or its own.
unfoldable pub plant : List ℕ → ℕ → List ℕ → List ℕ
plant earliest j trees = set trees j (pick (ltb (get_or earliest j 0) j) (get_or trees (get_or earliest j 0) 0) j)

unfoldable pub plant_all : ℕ → List ℕ → List ℕ → List ℕ
plant_all n earliest trees = up_to (plant earliest) trees n
