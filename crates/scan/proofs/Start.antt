-- The start of a round, on sets in words: both are emptied, and the starting station is put into the marked ones.
-- Assumes nothing.
use Prim.Native.Nat.{ℕ, ◌/◌, ◌<◌}
use mathlib.Core.Path.{◌≡◌, ap, ap₂, ◌∙◌}
use mathlib.Core.Bool.{Bool, true}
use mathlib.Core.List.{List, []}
use lib.ListN.{length, set, replicate}
use Rattle.bits.specs.Sets.{put_in, members}
use Rattle.bits.proofs.Sets.{members_none, members_put}
use Rattle.rule.specs.Rule.{scanning, round_start}

pub round_starts : (n start : ℕ) (ranks : List ℕ) (marks_count scans_count : ℕ) {emptied marked scanned : List ℕ}
    → start < n → start / 64 < length emptied → emptied ≡ replicate marks_count 0 → marked ≡ put_in emptied start → scanned ≡ replicate scans_count 0
    → scanning ranks (members n marked) (members n scanned) [] ≡ round_start n start ranks
round_starts n start ranks marks_count scans_count {emptied = emptied} l room unmarked put unscanned =
    ap₂ (λ (x y : List Bool). scanning ranks x y [])
    ((ap (members n) put ∙ members_put n emptied start l room) ∙ ap (λ (x : List Bool). set x start true) (ap (members n) unmarked ∙ members_none n marks_count))
    (ap (members n) unscanned ∙ members_none n scans_count)
