-- The laws of copying: how many numbers are copied, which ranks matter, when it is not refused, and what two stores make of a buffer filled from
-- the front.
-- Assumes nothing.
use Prim.Native.Nat.{ℕ, zero, suc, ◌+◌, ◌-◌, ◌*◌, ◌/◌, ◌<◌, ◌≤◌}
use mathlib.Core.Path.{◌≡◌, refl, sym, ap, ◌∙◌}
use mathlib.Core.Bool.{Bool, true, false}
use mathlib.Core.List.{List, [], ◌∷◌, ◌++◌, append_assoc, append-nil}
use native.Mathlib.Omega.{arith}
use borrow.Author.Tests.{le-ltb, eq-eqb, ne_eqb}
use lib.ListN.{length, get_or, set, take, drop, length-append, length-set, length-take, length-drop, get_or-append}
use lib.Seq.{length-take-le, get_or-take, take_at, set-append_left}
use Rattle.std.proofs.lemmas.List.{set-append_right}
use borrow.Rule.Slice.PartMut.{mid_of, post_of, put_mid, set_mid_at, put_same as part_same}
use Rattle.std.specs.Prelude.{◌≢◌}
use Rattle.laws.specs.Fold.{pick, up_to}
use Rattle.laws.specs.Count.{bit, count}
use Rattle.laws.proofs.Fold.{up_to_more}
use Rattle.laws.proofs.Count.{total_same, count_more, count_rise}
use Rattle.laws.proofs.Lists.{store_next}
use Rattle.kinds.specs.Answers.{Answer.given}
use Rattle.limits.specs.Limits.{room_judged}
use Rattle.network.specs.Lines.{end_one, end_two, Within}
use Rattle.network.proofs.Sound.{within_taken}
use Rattle.kept.specs.Filled.{Filled}
use Rattle.kept.specs.Kept.{is_kept, kept_count, put_line, chosen_lines, copy_line, kept_lines, kept_of, copy_answer}

-- Two numbers for each chosen line.
pub put_size : (chosen : ℕ → Bool) (lines : List ℕ) (p : ℕ) → length (up_to (put_line chosen lines) [] p) ≡ 2 * count p chosen
unfolding up_to
put_size chosen lines zero = refl
put_size chosen lines (suc p) = go (chosen p) (up_to (put_line chosen lines) [] p) (put_size chosen lines p)
  where
    go : (b : Bool) (front : List ℕ) → length front ≡ 2 * count p chosen
        → length (pick b (front ++ (end_one lines p ∷ (end_two lines p ∷ []))) front) ≡ 2 * (bit b + count p chosen)
    go true front e = simp length-append (omega arith)
    go false front e = omega arith

pub chosen_length : (chosen : ℕ → Bool) (lines : List ℕ) → length (chosen_lines chosen lines) ≡ 2 * count (length lines / 2) chosen
unfolding chosen_lines
chosen_length chosen lines = put_size chosen lines (length lines / 2)

-- What stands before the first line stays in front.
pub put_behind : (chosen : ℕ → Bool) (lines stands : List ℕ) (p : ℕ) → up_to (put_line chosen lines) stands p ≡ stands ++ up_to (put_line chosen lines) [] p
unfolding up_to
put_behind chosen lines stands zero = sym (append-nil stands)
put_behind chosen lines stands (suc p) = rw (put_behind chosen lines stands p) (go (chosen p) (up_to (put_line chosen lines) [] p))
  where
    go : (b : Bool) (front : List ℕ) → pick b ((stands ++ front) ++ (end_one lines p ∷ (end_two lines p ∷ []))) (stands ++ front)
        ≡ stands ++ pick b (front ++ (end_one lines p ∷ (end_two lines p ∷ []))) front
    go true front = append_assoc stands front (end_one lines p ∷ (end_two lines p ∷ []))
    go false front = refl

pub copy_size : (lines ranks : List ℕ) (p : ℕ) → length (up_to (copy_line lines ranks) [] p) ≡ 2 * count p (is_kept ranks)
unfolding copy_line
copy_size lines ranks p = put_size (is_kept ranks) lines p

pub kept_length : (lines ranks : List ℕ) → length (kept_lines lines ranks) ≡ 2 * kept_of lines ranks
unfolding kept_lines kept_of
kept_length lines ranks = copy_size lines ranks (length lines / 2)

-- One rank more is counted where it is not 0, and passed over where it is.
pub rank_counted : (ranks : List ℕ) (p kept : ℕ) → kept ≡ count p (is_kept ranks) → get_or ranks p 0 ≢ 0 → kept + 1 ≡ count (p + 1) (is_kept ranks)
rank_counted ranks p kept e h = sym (count_more (is_kept ranks) p ∙ rw (ne_eqb (get_or ranks p 0) 0 h) (omega (arith, e)))

pub rank_passed : (ranks : List ℕ) (p kept : ℕ) → kept ≡ count p (is_kept ranks) → get_or ranks p 0 ≡ 0 → kept ≡ count (p + 1) (is_kept ranks)
rank_passed ranks p kept e h = sym (count_more (is_kept ranks) p ∙ rw (eq-eqb (get_or ranks p 0) 0 h) (omega (arith, e)))

-- Counting the first m ranks counts the kept lines.
pub kept_of_lem : (lines ranks : List ℕ) → length lines / 2 ≤ length ranks → kept_count (take (length lines / 2) ranks) ≡ kept_of lines ranks
unfolding kept_count kept_of
kept_of_lem lines ranks h =
    rw (length-take-le (length lines / 2) ranks h)
    (total_same (length lines / 2) _ _ (λ p l. rw (get_or-take (length lines / 2) ranks p 0 l)))

-- Ranks past the last line's change nothing.
pub count_front : (lines ranks rest : List ℕ) → length ranks ≡ length lines / 2 → kept_of lines (ranks ++ rest) ≡ kept_count ranks
count_front lines ranks rest size =
    sym (kept_of_lem lines (ranks ++ rest) (simp length-append (omega arith))) ∙ ap kept_count (take_at ranks rest (length lines / 2) size)

copied_front : (lines ranks rest : List ℕ) (p : ℕ) → p ≤ length ranks → up_to (copy_line lines (ranks ++ rest)) [] p ≡ up_to (copy_line lines ranks) [] p
unfolding up_to copy_line
copied_front lines ranks rest zero h = refl
copied_front lines ranks rest (suc p) h = rw (get_or-append ranks rest 0 p h, copied_front lines ranks rest p (omega arith))

pub kept_front : (lines ranks rest : List ℕ) → length lines / 2 ≤ length ranks → kept_lines lines (ranks ++ rest) ≡ kept_lines lines ranks
unfolding kept_lines
kept_front lines ranks rest h = copied_front lines ranks rest (length lines / 2) h

-- THEOREM. Copying is not refused where the list is within the limits, each line has a rank and the kept lines have room.
pub copy_given : {n : ℕ} (lines ranks : List ℕ) (room : ℕ) → Within n lines → length lines / 2 ≤ length ranks → 2 * kept_of lines ranks ≤ room
    → copy_answer lines ranks room ≡ given (kept_of lines ranks)
unfolding copy_answer room_judged
copy_given {n} lines ranks room within ranked fits =
    rw ((within_taken 0 n lines within).1, le-ltb (length ranks) (length lines / 2) ranked, le-ltb room (2 * kept_of lines ranks) fits)

-- A line's two ends, stored after what was put before.
pub store_two : (front before : List ℕ) (at a b : ℕ) → length front ≡ at → at + 2 ≤ length before
    → set (set (front ++ drop at before) at a) (at + 1) b ≡ (front ++ (a ∷ (b ∷ []))) ++ drop (at + 2) before
store_two front before at a b e h =
    let two : at + 1 + 1 ≡ at + 2 = omega arith in
    let one : length (front ++ (a ∷ [])) ≡ at + 1 = simp length-append (omega arith) in
    rw (store_next front before at a e (omega arith), store_next (front ++ (a ∷ [])) before (at + 1) b one (omega arith), two, append_assoc front (a ∷ []) (b ∷ []))

-- A store in a part of a room is one at its place in the room, also where the part holds something else by now.
part_store : (room part : List ℕ) (at k j v : ℕ) → at ≤ length room → j < length part → put_mid at k room (set part j v) ≡ set (put_mid at k room part) (at + j) v
part_store room part at k j v within h =
    let past = post_of at k room in
    let j_on : at + j - at ≡ j = omega arith in
    ap (λ l. take at room ++ l) (sym (set-append_left part past j v h))
    ∙ sym (set-append_right (take at room) (part ++ past) at (at + j) v (length-take-le at room within) (omega arith) ∙ rw j_on refl)

-- Two stores at the front of the part likewise.
pub part_stored : (room : List ℕ) (at k a b : ℕ) → 2 ≤ length (mid_of at k room)
    → put_mid at k room (set (set (mid_of at k room) 0 a) 1 b) ≡ set (set room at a) (at + 1) b
part_stored room at k a b h =
    let part = mid_of at k room in
    let inside : at + 2 ≤ length room = omega (arith, h, length-take k (drop at room), length-drop at room) in
    let zero_on : at + 0 ≡ at = omega arith in
    part_store room (set part 0 a) at k 1 b (omega arith) (simp length-set (omega arith))
    ∙ ap (λ l. set l (at + 1) b) (set_mid_at at k 0 room a (omega arith) ∙ rw zero_on refl)

-- Behind the lines before p there are two places for the line at p, if it is chosen.
pub line_left : (chosen : ℕ → Bool) (lines : List ℕ) {p at : ℕ} (m : ℕ) → length (up_to (put_line chosen lines) [] p) ≡ at → p < m → at + 2 * bit (chosen p) ≤ 2 * count m chosen
line_left chosen lines {p} m size l = omega (arith, size, put_size chosen lines p, count_more chosen p, count_rise chosen (p + 1) m (omega arith))

-- The chosen lines before p fill the front of a room.
module _ (chosen : ℕ → Bool) (lines : List ℕ) {before : List ℕ} {p at : ℕ} {room : List ℕ} (filled : Filled (up_to (put_line chosen lines) [] p) before at room) where
  -- the two ends of a line that is chosen are stored behind them
  pub put_more : chosen p ≡ true → at + 2 ≤ length before
      → Filled (up_to (put_line chosen lines) [] (p + 1)) before (at + 2) (set (set room at (end_one lines p)) (at + 1) (end_two lines p))
  put_more e h =
      rw (up_to_more (put_line chosen lines) [] p, e) (record {
        size = simp length-append (omega (arith, filled.size));
        is = rw filled.is (store_two (up_to (put_line chosen lines) [] p) before at (end_one lines p) (end_two lines p) filled.size h);
      })

  -- a line that is not chosen changes nothing
  pub put_same : chosen p ≡ false → Filled (up_to (put_line chosen lines) [] (p + 1)) before at room
  put_same e = rw (up_to_more (put_line chosen lines) [] p, e) filled

  -- so a part of the room that begins behind them takes the line just where it is chosen
  pub put_step : (b : Bool) → chosen p ≡ b → (k : ℕ) → 2 * bit b ≤ length (mid_of at k room) → at + 2 * bit b ≤ length before
      → Filled (up_to (put_line chosen lines) [] (p + 1)) before (at + 2 * bit b)
      (put_mid at k room (pick b (set (set (mid_of at k room) 0 (end_one lines p)) 1 (end_two lines p)) (mid_of at k room)))
  put_step true e k h fits = rw (part_stored room at k (end_one lines p) (end_two lines p) h) (put_more e fits)
  put_step false e k h fits = let zero_more : at + 0 ≡ at = omega arith in rw (zero_more, part_same at k room) (put_same e)
