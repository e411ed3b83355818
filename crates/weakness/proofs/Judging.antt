-- A network is taken just when it may be searched.
-- Assumes nothing.
use Prim.Native.Nat.{ℕ}
use mathlib.Core.Path.{◌≡◌, sym, ap, ◌∙◌}
use mathlib.Core.List.{List}
use borrow.Author.Tests.{le-ltb}
use Rattle.kinds.specs.Answers.{taken, ◌and_then◌, is_refused}
use Rattle.kinds.proofs.Answers.{then_both}
use Rattle.limits.specs.Limits.{stations_judged, length_judged, weak_level_judged}
use Rattle.network.specs.Judging.{lines_judged}
use Rattle.limits.proofs.Limits.{weak_level_good}
use Rattle.network.proofs.Sound.{within_taken, lines_only, parts_sound, sound_taken}
use Rattle.weakness.specs.Search.{weak_judged}
use Rattle.weakness.specs.Spots.{Searchable}

module _ (n k : ℕ) (lines : List ℕ) where
  -- THEOREM. What is taken may be searched.
  pub weak_good : weak_judged n k lines ≡ taken → Searchable n k lines
  unfolding weak_judged
  weak_good e =
      let (s, e₁) = then_both (stations_judged n) (length_judged 0 lines and_then weak_level_judged k and_then lines_judged 0 n lines) (ap is_refused e) in
      let (l, e₂) = then_both (length_judged 0 lines) (weak_level_judged k and_then lines_judged 0 n lines) e₁ in
      let (v, e₃) = then_both (weak_level_judged k) (lines_judged 0 n lines) e₂ in
      record {
        sound = parts_sound 0 n lines s l e₃;
        some = (weak_level_good k v).0;
        most = (weak_level_good k v).1;
      }

  -- THEOREM. What may be searched is taken.
  pub good_weak : Searchable n k lines → weak_judged n k lines ≡ taken
  unfolding weak_judged weak_level_judged
  good_weak g =
      let (a, b) = within_taken 0 n lines g.sound.within in
      rw (a, b, le-ltb k 1 g.some, le-ltb 3 k g.most) (sym (lines_only 0 n lines g.sound.within) ∙ sound_taken 0 n lines g.sound)
