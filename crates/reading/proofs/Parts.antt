-- The laws of lists made of parts.
-- Assumes nothing.
use Prim.Native.Nat.{ℕ, zero, suc, ◌+◌, ◌*◌, ◌<◌, ◌≤◌}
use mathlib.Core.Path.{◌≡◌, sym, ap, ◌∙◌}
use mathlib.Core.List.{List, [], ◌∷◌, ◌++◌, append_assoc}
use native.Mathlib.Nat.{suc-mul, add-zero}
use native.Mathlib.Omega.{arith}
use native.Mathlib.Numerals.{add-one}
use lib.ListN.{length, set, take, drop, length-append, take-append-drop}
use lib.Seq.{length-take-le, take_at, drop_at, drop-drop, sets-eq}
use Rattle.laws.specs.Fold.{up_to}
use Rattle.laws.proofs.Fold.{up_to_more}
use Rattle.reading.specs.Parts.{gathered, placed}

pub gathered_more : (f : ℕ → List ℕ) (count : ℕ) → gathered f (count + 1) ≡ gathered f count ++ f count
unfolding gathered
gathered_more f count = up_to_more (λ index front. front ++ f index) [] count

pub length_gathered : (f : ℕ → List ℕ) (size : ℕ) → ((index : ℕ) → length (f index) ≡ size) → (count : ℕ) → length (gathered f count) ≡ count * size
unfolding gathered up_to
length_gathered f size h zero = omega arith
length_gathered f size h (suc count) = simp (length-append, length_gathered f size h count, h count) (omega (arith, suc-mul count size))

-- A part put in after a part is the two put in at once.
pub placed_after : (list a b : List ℕ) (index at : ℕ) → index ≤ length list → index + length a ≡ at → placed (placed list index a) at b ≡ placed list index (a ++ b)
unfolding placed
placed_after list a b index at h e =
    let t = take index list in
    let r = drop (index + length a) list in
    let l : length (t ++ a) ≡ at = simp length-append (omega (arith, length-take-le index list h)) in
    let p : t ++ (a ++ r) ≡ (t ++ a) ++ r = sym (append_assoc t a r) in
    let q : drop (at + length b) ((t ++ a) ++ r) ≡ drop (at + length b) list =
    sym (drop-drop (length b) at ((t ++ a) ++ r))
    ∙ (ap (drop (length b)) (drop_at (t ++ a) r at l) ∙ (drop-drop (length b) (index + length a) list ∙ ap (λ (x : ℕ). drop (x + length b) list) e)) in
    let s : index + length (a ++ b) ≡ at + length b = simp length-append (omega arith) in
    rw (p, take_at (t ++ a) r at l, q, s) (simp append_assoc)

-- Gathered parts put in one at a time: none changes nothing, and one more after those before it.
pub gathered_none : (f : ℕ → List ℕ) (list : List ℕ) (index : ℕ) → list ≡ placed list index (gathered f 0)
unfolding placed gathered up_to
gathered_none f list index = rw (add-zero index) (sym (take-append-drop index list))

pub gathered_next : (f : ℕ → List ℕ) (size : ℕ) → ((index : ℕ) → length (f index) ≡ size) → (list : List ℕ) (index at count : ℕ) → index ≤ length list
    → index + count * size ≡ at → placed (placed list index (gathered f count)) at (f count) ≡ placed list index (gathered f (count + 1))
gathered_next f size same list index at count h e =
    placed_after list (gathered f count) (f count) index at h (omega (arith, length_gathered f size same count))
    ∙ ap (placed list index) (sym (gathered_more f count))

-- One store, and two stores side by side, put in a part.
pub store_one : (list : List ℕ) (index a : ℕ) → index < length list → set list index a ≡ placed list index (a ∷ [])
unfolding placed
store_one list index a h = sets-eq (a ∷ []) list index (omega arith) ∙ append_assoc (take index list) (a ∷ []) (drop (index + 1) list)

pub store_two : (list : List ℕ) (index a b : ℕ) → index + 2 ≤ length list → set (set list index a) (index + 1) b ≡ placed list index (a ∷ b ∷ [])
unfolding placed
store_two list index a b h = rw (add-one index) (sets-eq (a ∷ b ∷ []) list index h ∙ append_assoc (take index list) (a ∷ b ∷ []) (drop (index + 2) list))
