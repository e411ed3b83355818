-- THEOREM. Uniting gives an answer just where both lists are sound, their union is within the line limit and there is room for it.
-- Assumes nothing.
use Prim.Native.Nat.{ℕ, ◌/◌, ◌≤◌}
use mathlib.Core.Path.{◌≡◌, sym, ap, ◌∙◌}
use mathlib.Core.Bool.{false}
use mathlib.Core.List.{List}
use native.Mathlib.Omega.{arith}
use borrow.Author.Tests.{ltb-false, le-ltb}
use lib.Dec.{ltb}
use lib.ListN.{length}
use Rattle.kinds.specs.Answers.{Answer.given, taken, ◌and_then◌, is_refused}
use Rattle.kinds.proofs.Answers.{then_both, passed, then_given}
use Rattle.network.specs.Faults.{Sound}
use Rattle.limits.specs.Limits.{stations_judged, length_judged, room_judged}
use Rattle.network.specs.Judging.{lines_judged}
use Rattle.network.proofs.Sound.{within_taken, lines_only, parts_sound, sound_taken}
use Rattle.unite.specs.Unites.{Unites}
use Rattle.unite.specs.Union.{united, lists_judged, union_judged, union_short, size_answer, union_answer}

-- The two lists are sound just where they are not refused.
module _ (n : ℕ) (first second : List ℕ) where
  pub lists_sound : is_refused (lists_judged n first second) ≡ false → Sound n first × Sound n second
  unfolding lists_judged
  lists_sound e =
      let (s, e₁) = then_both (stations_judged n) (length_judged 1 first and_then length_judged 2 second and_then lines_judged 1 n first and_then lines_judged 2 n second) e in
      let (l, e₂) = then_both (length_judged 1 first) (length_judged 2 second and_then lines_judged 1 n first and_then lines_judged 2 n second) e₁ in
      let (m, e₃) = then_both (length_judged 2 second) (lines_judged 1 n first and_then lines_judged 2 n second) e₂ in
      let (a, b) = then_both (lines_judged 1 n first) (lines_judged 2 n second) e₃ in
      (parts_sound 1 n first s l a, parts_sound 2 n second s m b)

  pub sound_lists : Sound n first → Sound n second → lists_judged n first second ≡ taken
  unfolding lists_judged
  sound_lists one two =
      let (s, l) = within_taken 1 n first one.within in
      let (_, m) = within_taken 2 n second two.within in
      let a = sym (lines_only 1 n first one.within) ∙ sound_taken 1 n first one in
      let b = sym (lines_only 2 n second two.within) ∙ sound_taken 2 n second two in
      rw (s, l, m, a, b)

-- What the tests of the union's size mean.
module _ (first second : List ℕ) where
  pub union_few : is_refused (union_judged first second) ≡ false → length (united first second) ≤ 16384
  unfolding union_judged
  union_few e = let h = passed (ltb 16384 (length (united first second))) 13 0 0 e in omega (arith, ltb-false)

  pub union_fits : (room : ℕ) → union_short first second room ≡ false → length (united first second) ≤ room
  unfolding union_short
  union_fits room e = omega (arith, ltb-false)

module _ (n : ℕ) (first second : List ℕ) (room : ℕ) where
  pub given_unites : {count : ℕ} → union_answer n first second room ≡ given count → Unites n first second room
  unfolding union_answer size_answer room_judged
  given_unites {count} e =
      let size = length (united first second) in
      let last = room_judged (union_short first second room) and_then given (size / 2) in
      let (lists, e₁) = then_given (lists_judged n first second) (union_judged first second and_then last) e in
      let (union, e₂) = then_given (union_judged first second) last e₁ in
      let (short, e₃) = then_given (room_judged (union_short first second room)) (given (size / 2)) e₂ in
      let (one, two) = lists_sound n first second (ap is_refused lists) in
      record {
        one = one;
        two = two;
        few = union_few first second (ap is_refused union);
        fits = union_fits first second room (passed (union_short first second room) 5 0 0 (ap is_refused short));
      }

  pub unites_given : Unites n first second room → union_answer n first second room ≡ given (length (united first second) / 2)
  unfolding union_answer size_answer union_judged union_short room_judged
  unites_given u =
      let size = length (united first second) in
      rw (sound_lists n first second u.one u.two, le-ltb 16384 size u.few, le-ltb room size u.fits)
