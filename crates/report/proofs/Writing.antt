-- Parts written one after the other are one part.
-- Assumes nothing.
use Prim.Native.Nat.{ℕ, suc, ◌+◌, ◌≤◌, ◌<◌}
use mathlib.Core.Path.{◌≡◌, refl, sym, ap, ◌∙◌}
use mathlib.Core.List.{List, [], ◌∷◌, ◌++◌, append_assoc, append-nil}
use native.Mathlib.Omega.{arith}
use native.Mathlib.Nat.{zero-add}
use native.Mathlib.Numerals.{add-one}
use lib.ListN.{length, get_or, set, take, drop, length-append, length-drop, take-append-drop}
use lib.Seq.{length-take-le, take-suc, take_at, drop-drop, drop-append-add, set_split}
use Rattle.report.specs.Writing.{Puts}

-- A part of no bytes changes nothing.
pub puts_none : (text : List ℕ) (at : ℕ) → at ≤ length text → Puts text at [] text at
puts_none text at h = record { text = sym (rw append-nil (take-append-drop at text)); ends = omega arith; fits = h }

-- A store is a part of one byte.
pub puts_byte : (text : List ℕ) (at byte : ℕ) → at < length text → Puts text at (byte ∷ []) (set text at byte) (at + 1)
puts_byte text at byte h = record { text = rw add-one (set_split text at byte h ∙ sym (append_assoc (take at text) (byte ∷ []) (drop (suc at) text))); ends = refl; fits = omega arith }

-- Past what was written, the text is as it was.
drop_past : (front text : List ℕ) (next more : ℕ) → length front ≡ next → drop (next + more) (front ++ drop next text) ≡ drop (next + more) text
drop_past front text next more e = rw (← e) (drop-append-add front (drop (length front) text) more ∙ drop-drop more (length front) text)

module _ {before part after : List ℕ} {at next : ℕ} (p : Puts before at part after next) where
  -- What was written, with what stands before it.
  front : length (take at before ++ part) ≡ next
  front = simp (length-append, length-take-le at before (omega arith)) (sym p.ends)

  -- The text is as long as it was.
  pub puts_length : length after ≡ length before
  puts_length = ap length p.text ∙ simp (length-append, length-drop) (omega (arith, simp length-append at front))

  -- A part written where the first one ends.
  pub puts_then : {part' after' : List ℕ} {next' : ℕ} → Puts after next part' after' next' → Puts before at (part ++ part') after' next'
  puts_then {part'} {after'} {next'} q =
      let whole : length after ≡ length before = puts_length in
      let front_is : take next after ≡ take at before ++ part = ap (take next) p.text ∙ take_at (take at before ++ part) (drop next before) next front in
      let rest_is : drop next' after ≡ drop next' before =
      ap (drop next') p.text ∙ rw q.ends (drop_past (take at before ++ part) before next (length part') front) in
      record {
        text = q.text ∙ rw (front_is, rest_is) (rw (append_assoc (take at before) part part'));
        ends = simp length-append (omega arith);
        fits = omega arith;
      }

-- One byte more of a word.
pub puts_more : {before after : List ℕ} (word : List ℕ) (at i : ℕ) → Puts before at (take i word) after (at + i) → i < length word → at + i < length after
    → Puts before at (take (i + 1) word) (set after (at + i) (get_or word i 0)) (at + (i + 1))
puts_more {before} {after} word at i p h k =
    let part : take i word ++ (get_or word i 0 ∷ []) ≡ take (i + 1) word = rw add-one (sym (take-suc word i 0 h)) in
    let next : at + i + 1 ≡ at + (i + 1) = omega arith in
    rw (part, next) at (puts_then p (puts_byte after (at + i) (get_or word i 0) k))

-- A part at the front.
pub puts_front : {before part after : List ℕ} {next : ℕ} → Puts before 0 part after next → (next ≡ length part) × (after ≡ part ++ drop (length part) before)
puts_front p = let e = p.ends ∙ zero-add _ in (e, rw e at p.text)
