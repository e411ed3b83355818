-- The lines at the front of a list whose ends 6 and 7 do not refuse, as the judge's helpers speak of them.
-- Assumes nothing.
use Rattle.std.specs.Prelude.{ℕ, ◌/◌, ◌<◌, ◌≡◌, Bool, List, length}
use Rattle.laws.specs.Fold.{lowest}
use Rattle.bits.specs.Sets.{is_in}
use Rattle.kinds.specs.Answers.{is_refused}
use Rattle.network.specs.Lines.{end_one, end_two}
use Rattle.network.specs.Judging.{stood_before, ends_judged}

-- Whether the ends of the line at place p are refused.
abbrev pub bad_ends : ℕ → ℕ → List ℕ → ℕ → Bool
bad_ends list n lines p = is_refused (ends_judged list n (end_one lines p) (end_two lines p) p)

-- How many lines stand before the first whose ends are refused; all of them where there is none.
unfoldable pub good_ends : ℕ → ℕ → List ℕ → ℕ
good_ends list n lines = lowest (bad_ends list n lines) (length lines / 2) (length lines / 2)

-- Of the lines before place m, the set has just the places of those that stood earlier.
pub record Marks (m : ℕ) (lines again : List ℕ) : Type 0 where
  pub exactly : (p : ℕ) → p < m → is_in again p ≡ stood_before lines p (end_one lines p) (end_two lines p)
