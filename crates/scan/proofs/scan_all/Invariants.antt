-- The loop's invariant in `scan::scan_all`: the state is the definition's after as many scans as places are filled, and its order fills them.
use Prim.Native.Nat.{ℕ}
use mathlib.Core.Path.{◌≡◌}
use mathlib.Core.List.{List, [], ◌++◌}
use lib.ListN.{length, drop}
use Rattle.laws.specs.Fold.{up_to}
use Rattle.bits.specs.Sets.{members}
use Rattle.rule.specs.Rule.{scanning, scan_next}
use Rattle.scan.proofs.scan_all.Given as goal

abbrev pub invariant-loop-slot : goal.invariant-loop-slot
invariant-loop-slot l = (length l.ranks ≡ length l.initial.ranks)
    × (length l.order ≡ l.n)
    × (front : List ℕ)
    × (length front ≡ l.slot-index)
    × (l.order ≡ front ++ drop l.slot-index l.initial.order)
    × (scanning l.ranks (members l.n l.progress.marked) (members l.n l.progress.scanned) front
    ≡ up_to (λ x. scan_next l.n l.lines l.round.0) (scanning l.initial.ranks (members l.n l.initial.progress.marked) (members l.n l.initial.progress.scanned) []) l.slot-index)
