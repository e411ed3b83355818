-- What a buffer that is not too short has room for.
-- Assumes nothing.
use Prim.Native.Nat.{ℕ, ◌+◌, ◌*◌, ◌/◌, ◌≤◌}
use mathlib.Core.Path.{◌≡◌}
use mathlib.Core.Bool.{false}
use mathlib.Core.List.{List}
use lib.ListN.{length}
use borrow.Author.Tests.{ltb-false}
use Rattle.report.specs.Answers.{keep_short}
use Rattle.laws.proofs.Truth.{neither}

pub keep_room : (lines : List ℕ) (room : ℕ) → keep_short lines room ≡ false → (length lines ≤ 16384) × (128 + 64 * (length lines / 2) ≤ room)
unfolding keep_short
keep_room lines room e = let h = neither _ _ e in (ltb-false _ _ h.0, ltb-false _ _ h.1)
