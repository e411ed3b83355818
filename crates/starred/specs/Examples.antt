-- The starred examples of the document, in its order, each a statement of what the definitions say.
-- Assumes nothing.
use Rattle.std.specs.Prelude.{ℕ, ◌≡◌, true, false, List, [], ◌∷◌}
use Rattle.kinds.specs.Answers.{Answer.given, Answer.refused}
use Rattle.network.specs.Lines.{network}
use Rattle.network.specs.Judging.{list_judged}
use Rattle.kept.specs.Kept.{kept_lines}
use Rattle.prune.specs.Pruning.{prune_answer}
use Rattle.rule.specs.Rounds.{rounds, pruned}
use Rattle.plans.specs.Verdicts.{Kind.C, Kind.D, Kind.E, Verdict.accepted, Verdict.faulty}
use Rattle.plans.specs.Checking.{check_answer}
use Rattle.plans.specs.Published.{MaximalForest}
use Rattle.plans.specs.Plans.{InPlay, OfRank}
use Rattle.joined.specs.Asking.{joined_answer}
use Rattle.unite.specs.Union.{united, union_answer}
use Rattle.certificate.specs.Seven.{seven, seven_ranks}
use Rattle.parting.specs.Standing.{Standing.stands, Standing.weak}
use Rattle.weakness.specs.Search.{weak_answer}

-- Every statement of a list holds.
abbrev pub Right : List (Type 0) → Type 0
Right [] = Unit {0}
Right (statement ∷ rest) = statement × Right rest

-- Q: stations 0 to 3, every two joined. The ring of four stations.
abbrev q : List ℕ
q = 0 ∷ 1 ∷ 0 ∷ 2 ∷ 0 ∷ 3 ∷ 1 ∷ 2 ∷ 1 ∷ 3 ∷ 2 ∷ 3 ∷ []

abbrev ring : List ℕ
ring = 0 ∷ 1 ∷ 1 ∷ 2 ∷ 2 ∷ 3 ∷ 0 ∷ 3 ∷ []

-- Two orders of seven stations, both rising.
abbrev seven_rising : List ℕ
seven_rising = 0 ∷ 1 ∷ 2 ∷ 3 ∷ 4 ∷ 5 ∷ 6 ∷ 0 ∷ 1 ∷ 2 ∷ 3 ∷ 4 ∷ 5 ∷ 6 ∷ []

abbrev pub starred : List (Type 0)
starred =
    -- Q, k 2, starts 0, 0: ranks 1 1 1 2 2 0, both orders 0 1 2 3
    (pruned 4 2 q (0 ∷ 0 ∷ []) ≡ rounds (1 ∷ 1 ∷ 1 ∷ 2 ∷ 2 ∷ 0 ∷ []) (0 ∷ 1 ∷ 2 ∷ 3 ∷ 0 ∷ 1 ∷ 2 ∷ 3 ∷ [])) ∷
    (prune_answer 4 2 q (0 ∷ 0 ∷ []) 6 8 ≡ given 5) ∷
    -- ring 01, 12, 23, 03, k 2, starts 2, 2: ranks 1 1 1 2, orders 2 1 0 3 and 2 0 3 1
    (pruned 4 2 ring (2 ∷ 2 ∷ []) ≡ rounds (1 ∷ 1 ∷ 1 ∷ 2 ∷ []) (2 ∷ 1 ∷ 0 ∷ 3 ∷ 2 ∷ 0 ∷ 3 ∷ 1 ∷ [])) ∷
    (prune_answer 4 2 ring (2 ∷ 2 ∷ []) 4 8 ≡ given 4) ∷
    -- one station, no lines, k 1, start 0: nothing kept, order 0
    (pruned 1 1 [] (0 ∷ []) ≡ rounds [] (0 ∷ [])) ∷
    (prune_answer 1 1 [] (0 ∷ []) 0 1 ≡ given 0) ∷
    -- two stations, lines 01 and 10: refused 8 at place 1
    (list_judged 0 2 (0 ∷ 1 ∷ 1 ∷ 0 ∷ []) ≡ refused 8 1 0) ∷
    -- lines 02, 12 over three stations, k 1, order 0 1 2: ranks 1 0 are fault E at line 1; ranks 1 1 are fault D at station 2
    (check_answer 3 1 (0 ∷ 2 ∷ 1 ∷ 2 ∷ []) (1 ∷ 0 ∷ []) (0 ∷ 1 ∷ 2 ∷ []) ≡ given (faulty 1 E 1)) ∷
    (check_answer 3 1 (0 ∷ 2 ∷ 1 ∷ 2 ∷ []) (1 ∷ 1 ∷ []) (0 ∷ 1 ∷ 2 ∷ []) ≡ given (faulty 1 D 2)) ∷
    -- the seven stations, k 2, both orders rising: fault C, round 1, station 3; both ranks are spanning forests, yet without station 0 the kept lines
    -- part 1 from 2, which the whole list does not
    (check_answer 7 2 seven seven_ranks seven_rising ≡ given (faulty 1 C 3)) ∷
    MaximalForest (network 7 seven) (InPlay seven_ranks 1) (OfRank seven_ranks 1) ∷
    MaximalForest (network 7 seven) (InPlay seven_ranks 2) (OfRank seven_ranks 2) ∷
    (joined_answer 7 (kept_lines seven seven_ranks) (0 ∷ []) 1 2 ≡ given false) ∷
    (joined_answer 7 seven (0 ∷ []) 1 2 ≡ given true) ∷
    -- the seven stations, starts 0, 0: ranks 1 1 2 2 1 1 2 1 2 1 2; the check accepts them
    (pruned 7 2 seven (0 ∷ 0 ∷ []) ≡ rounds (1 ∷ 1 ∷ 2 ∷ 2 ∷ 1 ∷ 1 ∷ 2 ∷ 1 ∷ 2 ∷ 1 ∷ 2 ∷ []) seven_rising) ∷
    (prune_answer 7 2 seven (0 ∷ 0 ∷ []) 11 14 ≡ given 11) ∷
    (check_answer 7 2 seven (pruned 7 2 seven (0 ∷ 0 ∷ [])).ranks (pruned 7 2 seven (0 ∷ 0 ∷ [])).orders ≡ given accepted) ∷
    -- star 01, 02, 03: stands at 1; at 2 weak spot {0}, stations 1 and 2
    (weak_answer 4 1 (0 ∷ 1 ∷ 0 ∷ 2 ∷ 0 ∷ 3 ∷ []) ≡ given stands) ∷
    (weak_answer 4 2 (0 ∷ 1 ∷ 0 ∷ 2 ∷ 0 ∷ 3 ∷ []) ≡ given (weak (0 ∷ []) 1 2)) ∷
    -- ring at 3: weak spot {0, 2}, stations 1 and 3
    (weak_answer 4 3 ring ≡ given (weak (0 ∷ 2 ∷ []) 1 3)) ∷
    -- two stations, no line, level 1: weak spot of no stations, 0 and 1
    (weak_answer 2 1 [] ≡ given (weak [] 0 1)) ∷
    -- triangle 01, 12, 02 at 3: stands
    (weak_answer 3 3 (0 ∷ 1 ∷ 1 ∷ 2 ∷ 0 ∷ 2 ∷ []) ≡ given stands) ∷
    -- union of 01, 12 and 21, 02: 01, 12, 02
    (united (0 ∷ 1 ∷ 1 ∷ 2 ∷ []) (2 ∷ 1 ∷ 0 ∷ 2 ∷ []) ≡ (0 ∷ 1 ∷ 1 ∷ 2 ∷ 0 ∷ 2 ∷ [])) ∷
    (union_answer 3 (0 ∷ 1 ∷ 1 ∷ 2 ∷ []) (2 ∷ 1 ∷ 0 ∷ 2 ∷ []) 6 ≡ given 3) ∷
    []
