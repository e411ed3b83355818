-- The loop's invariant in `cuts::set_unseen`: the depths below v are written.
use Prim.Native.Nat.{ℕ, ◌<◌}
use mathlib.Core.Path.{◌≡◌}
use lib.ListN.{length, get_or}
use Rattle.pieces.specs.Away.{is_gone}
use Rattle.cuts.specs.Passes.{first_depth}
use Rattle.cuts.proofs.set_unseen.Given as goal

abbrev pub invariant-loop-v : goal.invariant-loop-v
invariant-loop-v l = (length l.depths ≡ length l.initial.depths) × ((i : ℕ) → i < l.v → get_or l.depths i 0 ≡ first_depth (is_gone l.gone i))
