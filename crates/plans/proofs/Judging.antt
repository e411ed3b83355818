-- A plan is taken just when it may be checked.
-- Assumes nothing.
use Prim.Native.Nat.{ℕ}
use mathlib.Core.Path.{◌≡◌, sym, ◌∙◌}
use mathlib.Core.Bool.{Bool, false}
use mathlib.Core.List.{List}
use borrow.Author.Tests.{le-ltb}
use lib.ListN.{length}
use Rattle.kinds.specs.Answers.{taken, is_refused, ◌and_then◌}
use Rattle.kinds.proofs.Answers.{then_both, passed}
use Rattle.limits.specs.Limits.{stations_judged, length_judged, level_judged, room_judged, plan_short}
use Rattle.limits.proofs.Limits.{level_good}
use Rattle.network.specs.Judging.{lines_judged}
use Rattle.network.proofs.Sound.{parts_sound, within_taken, lines_only, sound_taken}
use Rattle.limits.proofs.Room.{room_enough, enough_room}
use Rattle.plans.specs.Checking.{plan_judged}
use Rattle.plans.specs.Checkable.{Checkable}

module _ (n k : ℕ) (lines ranks orders : List ℕ) where
  abbrev short : Bool
  short = plan_short n k lines (length ranks) (length orders)

  -- THEOREM. What is not refused may be checked.
  pub plan_good : is_refused (plan_judged n k lines short) ≡ false → Checkable n k lines ranks orders
  unfolding plan_judged room_judged
  plan_good e =
      let (s, e₁) = then_both (stations_judged n) (length_judged 0 lines and_then level_judged k and_then room_judged short and_then lines_judged 0 n lines) e in
      let (l, e₂) = then_both (length_judged 0 lines) (level_judged k and_then room_judged short and_then lines_judged 0 n lines) e₁ in
      let (v, e₃) = then_both (level_judged k) (room_judged short and_then lines_judged 0 n lines) e₂ in
      let (r, e₄) = then_both (room_judged short) (lines_judged 0 n lines) e₃ in
      let (ranked, ordered) = room_enough n k lines (length ranks) (length orders) (passed short 5 0 0 r) in
      record {
        sound = parts_sound 0 n lines s l e₄;
        some = (level_good k v).0;
        most = (level_good k v).1;
        ranked = ranked;
        ordered = ordered;
      }

  -- THEOREM. What may be checked is taken.
  pub good_plan : Checkable n k lines ranks orders → plan_judged n k lines short ≡ taken
  unfolding plan_judged level_judged room_judged
  good_plan g =
      let (a, b) = within_taken 0 n lines g.sound.within in
      rw (a, b, le-ltb k 1 g.some, le-ltb 16 k g.most, enough_room n k lines (length ranks) (length orders) g.ranked g.ordered)
      (sym (lines_only 0 n lines g.sound.within) ∙ sound_taken 0 n lines g.sound)
