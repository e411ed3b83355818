-- `weakness::find_weak_spot` meets its contract. What is not refused is a sound list and a level from 1 to 3, so it can be searched.
-- Assumes nothing.
use mathlib.Core.Path.{sym}
use Rattle.weakness.specs.Spots.{Searchable}
use Rattle.weakness.proofs.Judging.{weak_good}
use Rattle.weakness.proofs.find_weak_spot.Goals as goal
use Rattle.weakness.proofs.find_weak_spot.Goals.{In_ok-judge_weak}

searchable : (c : In_ok-judge_weak) → Searchable c.args.n c.args.level.0 c.args.lines.now
searchable c = weak_good c.args.n c.args.level.0 c.args.lines.now (sym c.in_ok-judge_weak.ensures.answer)

pub invariant_of-network : goal.invariant_of-network
invariant_of-network c = record { sound = (searchable (goal.at.invariant_of-network c).In_ok-judge_weak).sound }

pub search_network-requires : goal.search_network-requires
search_network-requires c =
    let s = searchable (goal.at.search_network-requires c).In_ok-judge_weak in
    (s.some, s.most)
