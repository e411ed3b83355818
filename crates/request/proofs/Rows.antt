-- The judge of a request follows its rows.
-- Assumes nothing.
use Prim.Native.Nat.{ℕ}
use mathlib.Core.Path.{◌≡◌}
use mathlib.Core.Bool.{Bool, true}
use mathlib.Core.Logic.{◌↔◌}
use mathlib.Core.List.{List}
use lib.ListN.{length, get_or}
use Rattle.laws.proofs.Truth.{not_exactly, leb_exactly, eqb_exactly}
use Rattle.kinds.specs.Rows.{Follows}
use Rattle.kinds.proofs.Rows.{row_follows, then_follows, each_follows}
use Rattle.limits.proofs.Rows.{stations_follows, length_follows, level_follows, room_follows}
use Rattle.network.proofs.Rows.{lines_follows}
use Rattle.request.specs.Judging.{start_count_judged, start_judged, starts_judged, sizes_judged, request_judged}
use Rattle.request.specs.Rows.{start_count_row, starts_rows, sizes_rows, request_rows}

module _ (n k : ℕ) (lines starts : List ℕ) where
  -- 4, and 9 round by round.
  start_count_follows : Follows (start_count_judged k starts) (start_count_row k starts)
  unfolding start_count_judged
  start_count_follows = row_follows (not_exactly (eqb_exactly (length starts) k))

  starts_follows : Follows (starts_judged n starts) (starts_rows n starts)
  unfolding starts_judged start_judged
  starts_follows = each_follows (λ index h. row_follows (leb_exactly n (get_or starts index 0)))

  -- The sizes: 1, 2, 3, 4, 5, where a test tells exactly that a lent buffer is shorter than needed.
  sizes_follows : {short : Bool} {Short : Type 0} → (short ≡ true) ↔ Short → Follows (sizes_judged n k lines starts short) (sizes_rows n k lines starts Short)
  unfolding sizes_judged
  sizes_follows tells =
      then_follows (stations_follows n)
      (then_follows (length_follows 0 lines) (then_follows (level_follows k) (then_follows start_count_follows (room_follows tells))))

  -- THEOREM. The judge follows its rows: the sizes, the lines, the starting stations.
  pub request_follows : {short : Bool} {Short : Type 0} → (short ≡ true) ↔ Short → Follows (request_judged n k lines starts short) (request_rows n k lines starts Short)
  unfolding request_judged
  request_follows tells = then_follows (sizes_follows tells) (then_follows (lines_follows 0 n lines) starts_follows)
