-- The loop's invariant in `pieces::set_names`: the table leads to the same names, and its first v entries are the names.
use Prim.Native.Nat.{ℕ, ◌<◌}
use mathlib.Core.List.{List}
use mathlib.Core.Path.{◌≡◌}
use lib.ListN.{length, get_or}
use Rattle.pieces.specs.Tables.{Leads}
use Rattle.pieces.proofs.set_names.Given as goal

abbrev pub invariant-loop-v : goal.invariant-loop-v
invariant-loop-v l = (length l.pieces ≡ length l.initial.pieces) × ((names : List ℕ) → Leads names l.initial.pieces → Leads names l.pieces × ((x : ℕ) → x < l.v → get_or l.pieces x 0 ≡ get_or names x 0))
