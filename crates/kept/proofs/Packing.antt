-- The laws of packing: what two stores make of a room whose front holds the chosen lines so far, whether the line that they put is chosen or not.
-- Assumes nothing.
use Prim.Native.Nat.{ℕ, zero, suc, ◌-◌, ◌+◌, ◌*◌, ◌/◌, ◌<◌, ◌≤◌}
use mathlib.Core.Path.{◌≡◌, refl, sym, ◌∙◌}
use mathlib.Core.Bool.{Bool, true, false}
use mathlib.Core.List.{List, [], ◌∷◌, ◌++◌, append_assoc}
use native.Mathlib.Omega.{arith}
use mir.Val.{bool_byte}
use lib.ListN.{length, set, take, length-append, length-set}
use Rattle.std.proofs.lemmas.List.{take-set-le, take_more_set, take_all}
use Rattle.laws.specs.Fold.{up_to}
use Rattle.laws.specs.Count.{count}
use Rattle.laws.proofs.Fold.{up_to_more}
use Rattle.network.specs.Lines.{end_one, end_two}
use Rattle.kept.specs.Filled.{Fronted}
use Rattle.kept.specs.Kept.{put_line, chosen_lines}
use Rattle.kept.proofs.Copying.{put_size, line_left}

-- Before the first line nothing stands in front.
pub pack_none : (chosen : ℕ → Bool) (lines room : List ℕ) → Fronted (up_to (put_line chosen lines) [] 0) 0 room
unfolding up_to
pack_none chosen lines room = record { size = refl; is = refl }

-- The chosen lines before p stand at the front of a room.
module _ (chosen : ℕ → Bool) (lines : List ℕ) {p at : ℕ} {room : List ℕ} (fronted : Fronted (up_to (put_line chosen lines) [] p) at room) where
  -- the two ends of a line that is chosen stay behind them
  pub pack_more : chosen p ≡ true → at + 2 ≤ length room
      → Fronted (up_to (put_line chosen lines) [] (p + 1)) (at + 2) (set (set room at (end_one lines p)) (at + 1) (end_two lines p))
  pack_more e h =
      let a = end_one lines p in
      let b = end_two lines p in
      let two : at + 1 + 1 ≡ at + 2 = omega arith in
      let one : take (at + 1) (set room at a) ≡ take at room ++ (a ∷ []) = take_more_set room at a (omega arith) in
      let both : take (at + 1 + 1) (set (set room at a) (at + 1) b) ≡ take (at + 1) (set room at a) ++ (b ∷ []) = take_more_set (set room at a) (at + 1) b (simp length-set (omega arith)) in
      rw (up_to_more (put_line chosen lines) [] p, e) (record {
        size = simp length-append (omega (arith, fronted.size));
        is = rw two at both ∙ rw (one, fronted.is, append_assoc (up_to (put_line chosen lines) [] p) (a ∷ []) (b ∷ [])) refl;
      })

  -- a line that is not chosen is put behind them, where the next one is put over it
  pub pack_same : chosen p ≡ false → (a b : ℕ) → Fronted (up_to (put_line chosen lines) [] (p + 1)) at (set (set room at a) (at + 1) b)
  pack_same e a b =
      rw (up_to_more (put_line chosen lines) [] p, e) (record {
        size = fronted.size;
        is = take-set-le at (set room at a) (at + 1) b (omega arith) ∙ (take-set-le at room at a (omega arith) ∙ fronted.is);
      })

  -- so two places more are taken just where the line is chosen
  pub pack_step : (b : Bool) → chosen p ≡ b → at + 2 ≤ length room
      → Fronted (up_to (put_line chosen lines) [] (p + 1)) (at + 2 * bool_byte b) (set (set room at (end_one lines p)) (at + 1) (end_two lines p))
  pack_step true e h = pack_more e h
  pack_step false e h = let zero_more : at + 0 ≡ at = omega arith in rw zero_more (pack_same e (end_one lines p) (end_two lines p))

  -- and where they fill the room, no line more is chosen
  pub pack_full : (m : ℕ) → p < m → 2 * count m chosen ≤ at → Fronted (up_to (put_line chosen lines) [] (p + 1)) at room
  pack_full m l full = go (chosen p) refl
    where
      go : (b : Bool) → chosen p ≡ b → Fronted (up_to (put_line chosen lines) [] (p + 1)) at room
      go true e = absurd (omega (arith, rw e at (line_left chosen lines m fronted.size l)))
      go false e = rw (up_to_more (put_line chosen lines) [] p, e) fronted

-- Where they fill the room, no line after them is chosen.
pub pack_rest : (chosen : ℕ → Bool) (lines : List ℕ) {p at : ℕ} {room : List ℕ} (m : ℕ) → p ≤ m → 2 * count m chosen ≤ at
    → Fronted (up_to (put_line chosen lines) [] p) at room → Fronted (up_to (put_line chosen lines) [] m) at room
pack_rest chosen lines {p} {at} {room} m l full fronted =
    let e : p + (m - p) ≡ m = omega arith in
    rw e at (go (m - p) (omega arith))
  where
    go : (d : ℕ) → p + d ≤ m → Fronted (up_to (put_line chosen lines) [] (p + d)) at room
    go zero h = let e : p + 0 ≡ p = omega arith in rw e fronted
    go (suc d) h = let e : p + suc d ≡ p + d + 1 = omega arith in rw e (pack_full chosen lines (go d (omega arith)) m (omega arith) full)

-- All chosen lines at the front of a room that they just fill are the room.
pub pack_all : (chosen : ℕ → Bool) (lines : List ℕ) {at : ℕ} {room : List ℕ} → Fronted (chosen_lines chosen lines) at room
    → 2 * count (length lines / 2) chosen ≡ length room → room ≡ chosen_lines chosen lines
unfolding chosen_lines
pack_all chosen lines {at} {room} fronted fits =
    sym (take_all at room (omega (arith, fits, fronted.size, put_size chosen lines (length lines / 2)))) ∙ fronted.is
