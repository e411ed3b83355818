-- The loop's invariant in `judging::good_ends`: what is left to search from the next place on is the answer.
use Prim.Native.Nat.{◌-◌, ◌/◌, ◌≤◌}
use mathlib.Core.Path.{◌≡◌}
use lib.ListN.{length}
use Rattle.laws.specs.Fold.{first_from}
use Rattle.kinds.specs.Refusals.{list_number}
use Rattle.judging.specs.Ends.{bad_ends, good_ends}
use Rattle.judging.proofs.good_ends.Given as goal

abbrev pub invariant-loop-place : goal.invariant-loop-place
invariant-loop-place l =
    let next = l.place-iterator.next in
    let end = l.place-iterator.end in
    (end ≡ length l.lines / 2) × (next ≤ end)
    × (good_ends (list_number l.list) l.n l.lines ≡ first_from (bad_ends (list_number l.list) l.n l.lines) (λ i. i) (length l.lines / 2) next (length l.lines / 2 - next))
