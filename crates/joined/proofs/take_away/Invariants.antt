-- The loop's invariant in `joined::take_away`: a station is marked just when it stands among the first so many of the list.
use Prim.Native.Nat.{ℕ, ◌<◌, ◌≤◌}
use mathlib.Core.Path.{◌≡◌}
use lib.ListN.{length, get_or}
use lib.Dec.{eqb}
use Rattle.laws.specs.Fold.{any_from}
use Rattle.pieces.specs.Away.{is_gone}
use Rattle.joined.proofs.take_away.Given as goal

abbrev pub invariant-loop-v : goal.invariant-loop-v
invariant-loop-v l = (l.v-index ≤ length l.away) × (length l.gone ≡ length l.initial.gone) × ((v : ℕ) → v < length l.gone → is_gone l.gone v ≡ any_from (λ i. eqb (get_or l.away i 0) v) 0 l.v-index)
