-- Parts of a list from an index on, and parts gathered one after the other.
-- Assumes nothing.
use Prim.Native.Nat.{ℕ, zero, suc, ◌+◌, ◌*◌, ◌<◌, ◌≤◌}
use mathlib.Core.Path.{◌≡◌, refl, sym, ap, ap₂, ◌∙◌}
use mathlib.Core.List.{List, [], ◌∷◌, ◌++◌}
use native.Mathlib.Nat.{suc-mul, zero-mul}
use native.Mathlib.Numerals.{add-one}
use native.Mathlib.Omega.{arith}
use native.Mathlib.Decide.{ℕ_discrete}
use lib.ListN.{length, get_or, take, drop, get_or-append}
use lib.Seq.{drop-cons, drop-drop, take-add, take-length, get_or-append-add}
use Rattle.laws.specs.Fold.{up_to}
use Rattle.laws.proofs.Lists.{part_fits}
use Rattle.reading.specs.Parts.{gathered}
use Rattle.reading.proofs.Parts.{length_gathered}

-- The `size` numbers of a list from an index on.
abbrev pub part : List ℕ → ℕ → ℕ → List ℕ
part list index size = take size (drop index list)

pub part_all : (list : List ℕ) (size : ℕ) → size ≡ length list → part list 0 size ≡ list
part_all list size e = rw e (take-length list)

-- Two parts side by side are one.
pub part_append : (list : List ℕ) (index a b at all : ℕ) → index + a ≡ at → a + b ≡ all → part list index a ++ part list at b ≡ part list index all
part_append list index a b at all e f = rw (← e, ← f, ← (drop-drop a index list)) (sym (take-add a b (drop index list)))

pub part_one : (list : List ℕ) (index : ℕ) → index < length list → get_or list index 0 ∷ [] ≡ part list index 1
part_one list index h = rw (drop-cons list index 0 h)

pub part_two : (list : List ℕ) (index : ℕ) → index + 2 ≤ length list → get_or list index 0 ∷ get_or list (index + 1) 0 ∷ [] ≡ part list index 2
part_two list index h =
    let l : index < length list = omega arith in
    let r : index + 1 < length list = omega arith in
    let e : drop index list ≡ get_or list index 0 ∷ get_or list (index + 1) 0 ∷ drop (suc (index + 1)) list =
    drop-cons list index 0 l ∙ ap (λ (x : List ℕ). get_or list index 0 ∷ x) (ap (λ (i : ℕ). drop i list) (sym (add-one index)) ∙ drop-cons list (index + 1) 0 r) in
    sym (ap (take 2) e)

-- What is a part at each number is a part when gathered.
pub gathered_part : (f : ℕ → List ℕ) (size : ℕ) (list : List ℕ) (index count : ℕ)
    → ((j : ℕ) → j < count → f j ≡ part list (index + j * size) size) → gathered f count ≡ part list index (count * size)
unfolding gathered up_to
gathered_part f size list index zero h = rw (zero-mul size)
gathered_part f size list index (suc count) h =
    ap₂ ◌++◌ (gathered_part f size list index count (λ j l. h j (omega arith))) (h count (omega arith))
    ∙ part_append list index (count * size) size (index + count * size) (suc count * size) refl (sym (suc-mul count size))

-- The number at place i of the part at j, of parts all of one size.
pub get_d_gathered : (f : ℕ → List ℕ) (size : ℕ) → ((j : ℕ) → length (f j) ≡ size) → (count j i : ℕ) → j < count → i < size
    → get_or (gathered f count) (j * size + i) 0 ≡ get_or (f j) i 0
unfolding gathered up_to
get_d_gathered f size same zero j i h l = absurd (omega arith)
get_d_gathered f size same (suc count) j i h l = go (ℕ_discrete j count) (λ b. get_d_gathered f size same count j i b l)
  where
    all : length (gathered f count) ≡ count * size
    all = length_gathered f size same count

    go : Dec (j ≡ count) → (j < count → get_or (gathered f count) (j * size + i) 0 ≡ get_or (f j) i 0) → get_or (gathered f count ++ f count) (j * size + i) 0 ≡ get_or (f j) i 0
    go (yes e) ih = rw (e, ← all) (get_or-append-add (gathered f count) (f count) i 0)
    go (no n) ih =
        let b : j < count = omega arith in
        get_or-append (gathered f count) (f count) 0 (j * size + i) (omega (arith, all, part_fits j count size b)) ∙ ih b
