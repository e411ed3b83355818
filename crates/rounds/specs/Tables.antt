-- The tables of one round's check, and its verdicts by the tables of what is seen.
-- Only the helpers speak of it. Assumes nothing.
use Rattle.std.specs.Prelude.{ℕ, ◌/◌, ◌≡◌, false, not, ◌&&◌, List, length, get_or, ltb, eqb}
use Rattle.laws.specs.Fold.{first_from}
use Rattle.network.specs.Lines.{end_one, end_two}
use Rattle.plans.specs.Verdicts.{Kind.C, Kind.D, Kind.E, Verdict, Verdict.accepted, fault_if, ◌or_else◌, is_faulty}
use Rattle.plans.specs.Checking.{in_play}
use Rattle.seen.specs.declared.Sighting.{Sighting}
use Rattle.seen.specs.Tables.{Seen}

-- There is room for each table.
pub record Room (n : ℕ) (positions : List ℕ) (sightings : List Sighting) (trees : List ℕ) : Type 0 where
  pub positions_room : length positions ≡ n
  pub sightings_room : length sightings ≡ n
  pub trees_room : length trees ≡ n

-- C before D, by the tables.
unfoldable pub seen_verdict : ℕ → List ℕ → Seen → ℕ → Verdict
seen_verdict i order s j =
    fault_if (ltb (get_or s.earliest j 0) j && not (get_or s.parents j false)) i C (get_or order j 0)
    or_else fault_if (get_or s.others j false) i D (get_or order j 0)

unfoldable pub all_seen_verdict : ℕ → ℕ → List ℕ → Seen → Verdict
all_seen_verdict n i order s = first_from is_faulty (seen_verdict i order s) accepted 0 n

-- E of the line at place p, by the tables of positions and of trees.
unfoldable pub trees_verdict : List ℕ → List ℕ → ℕ → List ℕ → List ℕ → ℕ → Verdict
trees_verdict lines ranks i positions trees p =
    fault_if (in_play ranks i p && not (eqb (get_or trees (get_or positions (end_one lines p) 0) 0) (get_or trees (get_or positions (end_two lines p) 0) 0))) i E p

unfoldable pub all_trees_verdict : List ℕ → List ℕ → ℕ → List ℕ → List ℕ → Verdict
all_trees_verdict lines ranks i positions trees = first_from is_faulty (trees_verdict lines ranks i positions trees) accepted 0 (length lines / 2)
