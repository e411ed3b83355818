-- The laws of judging a request: it is taken just when it is in order.
-- Assumes nothing.
use Prim.Native.Nat.{ℕ, ◌+◌, ◌<◌}
use mathlib.Core.Path.{◌≡◌, sym, ◌∙◌}
use mathlib.Core.Bool.{Bool, false, not}
use mathlib.Core.List.{List}
use native.Mathlib.Omega.{arith}
use borrow.Author.Tests.{leb-false, eqb-true, not-false, le-ltb, lt-leb, eq-eqb}
use lib.Dec.{leb, eqb}
use lib.ListN.{length, get_or}
use Rattle.laws.proofs.Fold.{first_all, first_last}
use Rattle.kinds.specs.Answers.{taken, ◌and_then◌, is_refused}
use Rattle.kinds.proofs.Answers.{then_both, taken_is, passed}
use Rattle.limits.specs.Limits.{stations_judged, length_judged, level_judged, room_judged}
use Rattle.network.specs.Judging.{lines_judged, list_judged}
use Rattle.limits.proofs.Limits.{level_good}
use Rattle.network.proofs.Judging.{within_good}
use Rattle.network.proofs.Sound.{within_taken, lines_only, taken_sound, sound_taken}
use Rattle.request.specs.Judging.{start_count_judged, start_judged, starts_judged, sizes_judged, request_judged}
use Rattle.request.specs.Requests.{Sized, Request}

module _ (n k : ℕ) (lines starts : List ℕ) (short : Bool) where
  pub sizes_good : is_refused (sizes_judged n k lines starts short) ≡ false → Sized n k lines starts short
  unfolding sizes_judged start_count_judged room_judged
  sizes_good e =
      let (s, e₁) = then_both (stations_judged n) (length_judged 0 lines and_then level_judged k and_then start_count_judged k starts and_then room_judged short) e in
      let (l, e₂) = then_both (length_judged 0 lines) (level_judged k and_then start_count_judged k starts and_then room_judged short) e₁ in
      let (v, e₃) = then_both (level_judged k) (start_count_judged k starts and_then room_judged short) e₂ in
      let (c, r) = then_both (start_count_judged k starts) (room_judged short) e₃ in
      record {
        within = within_good 0 n lines s l;
        some = (level_good k v).0;
        most = (level_good k v).1;
        starts_count = eqb-true (length starts) k (not-false (eqb (length starts) k) (passed (not (eqb (length starts) k)) 4 0 0 c));
        room = passed short 5 0 0 r;
      }

  good_sizes : Sized n k lines starts short → sizes_judged n k lines starts short ≡ taken
  unfolding sizes_judged level_judged start_count_judged room_judged
  good_sizes s =
      let (a, b) = within_taken 0 n lines s.within in
      rw (a, b, le-ltb k 1 s.some, le-ltb 16 k s.most, eq-eqb (length starts) k s.starts_count, s.room)

  starts_good : is_refused (starts_judged n starts) ≡ false → (index : ℕ) → index < length starts → get_or starts index 0 < n
  unfolding starts_judged start_judged
  starts_good e index h =
      leb-false n (get_or starts index 0)
      (passed (leb n (get_or starts index 0)) 9 (index + 1) 0 (first_all is_refused (start_judged n starts) taken (length starts) e index h))

  good_starts : ((index : ℕ) → index < length starts → get_or starts index 0 < n) → starts_judged n starts ≡ taken
  unfolding starts_judged start_judged
  good_starts h = first_last is_refused (start_judged n starts) taken (length starts) (λ index l. rw (lt-leb n (get_or starts index 0) (h index l)))

  -- after the sizes, judging the list is judging its lines
  pub sized_lines : is_refused (sizes_judged n k lines starts short) ≡ false → list_judged 0 n lines ≡ lines_judged 0 n lines
  sized_lines e = lines_only 0 n lines (sizes_good e).within

  -- THEOREM. What is not refused is in order.
  pub request_good : is_refused (request_judged n k lines starts short) ≡ false → Request n k lines starts short
  unfolding request_judged
  request_good e =
      let (s, e₁) = then_both (sizes_judged n k lines starts short) (lines_judged 0 n lines and_then starts_judged n starts) e in
      let (l, t) = then_both (lines_judged 0 n lines) (starts_judged n starts) e₁ in
      let z = sizes_good s in
      record {
        sized = z;
        sound = taken_sound 0 n lines (sized_lines s ∙ taken_is (lines_judged 0 n lines) l);
        starts_in = λ index h. starts_good t index (omega (arith, z.starts_count));
      }

  -- THEOREM. What is in order is taken.
  pub good_request : Request n k lines starts short → request_judged n k lines starts short ≡ taken
  unfolding request_judged
  good_request r =
      let l : lines_judged 0 n lines ≡ taken = sym (lines_only 0 n lines r.sound.within) ∙ sound_taken 0 n lines r.sound in
      rw (good_sizes r.sized, l) (good_starts (λ index h. r.starts_in index (omega (arith, r.sized.starts_count))))
