-- The document's number, place and list determine a refusal, and so what a routine says.
-- The idea: a refusal can be made again from its three numbers. Assumes nothing.
use Prim.Native.Nat.{ℕ}
use mathlib.Core.Path.{◌≡◌, refl, sym, ap, ◌∙◌}
use lib.Dec.{eqb}
use Rattle.std.specs.Prelude.{Result, Ok, Err}
use Rattle.laws.specs.Fold.{pick}
use Rattle.kinds.specs.Refusals.{number_of, place_of, list_of}
use Rattle.kinds.specs.Answers.{answer_of}
use Rattle.kinds.specs.declared.LineList.{LineList}
use Rattle.kinds.specs.declared.LineList.TheVariants.{Only, First as FirstList, Second as SecondList}
use Rattle.kinds.specs.declared.Asked.TheVariants.{First, Second}
use Rattle.kinds.specs.declared.Refusal.{Refusal}
use Rattle.kinds.specs.declared.Refusal.TheVariants.{StationCount, LineCount, LevelRange, StartCount, Room, EndOutside, EndsEqual, StoodEarlier, StartOutside, TakenAway, AskedStation, WeakLevel, UnionCount, Mark, FileEnds, EndCount, BytesFollow, FileLineCount, FileStartCount}

list_from : ℕ → LineList
list_from list = pick (eqb list 0) Only (pick (eqb list 1) FirstList SecondList)

-- the refusal of a row of the table, but for a file's
table_from : ℕ → ℕ → LineList → Refusal
table_from number place list =
    pick (eqb number 1) StationCount
    (pick (eqb number 2) (LineCount list)
    (pick (eqb number 3) LevelRange
    (pick (eqb number 4) StartCount
    (pick (eqb number 5) Room
    (pick (eqb number 6) (EndOutside list (record { 0 = place }))
    (pick (eqb number 7) (EndsEqual list (record { 0 = place }))
    (pick (eqb number 8) (StoodEarlier list (record { 0 = place }))
    (pick (eqb number 9) (StartOutside (record { 0 = place }))
    (pick (eqb number 10) (TakenAway (record { 0 = place }))
    (pick (eqb number 11) (AskedStation (pick (eqb place 0) First Second))
    (pick (eqb number 12) WeakLevel UnionCount)))))))))))

-- the refusal of a file's record
file_from : ℕ → ℕ → Refusal
file_from number offset =
    pick (eqb number 2) (FileLineCount (record { 0 = offset }))
    (pick (eqb number 4) (FileStartCount (record { 0 = offset }))
    (pick (eqb number 20) (Mark (record { 0 = offset }))
    (pick (eqb number 21) (FileEnds (record { 0 = offset }))
    (pick (eqb number 22) (EndCount (record { 0 = offset })) (BytesFollow (record { 0 = offset }))))))

refusal_from : ℕ → ℕ → ℕ → Refusal
refusal_from number place list = pick (eqb list 3) (file_from number place) (table_from number place (list_from list))

again : (r : Refusal) → refusal_from (number_of r) (place_of r) (list_of r) ≡ r
unfolding refusal_from file_from table_from list_from
again StationCount = refl
again (LineCount Only) = refl
again (LineCount FirstList) = refl
again (LineCount SecondList) = refl
again LevelRange = refl
again StartCount = refl
again Room = refl
again (EndOutside Only place) = refl
again (EndOutside FirstList place) = refl
again (EndOutside SecondList place) = refl
again (EndsEqual Only place) = refl
again (EndsEqual FirstList place) = refl
again (EndsEqual SecondList place) = refl
again (StoodEarlier Only place) = refl
again (StoodEarlier FirstList place) = refl
again (StoodEarlier SecondList place) = refl
again (StartOutside round) = refl
again (TakenAway position) = refl
again (AskedStation First) = refl
again (AskedStation Second) = refl
again WeakLevel = refl
again UnionCount = refl
again (Mark offset) = refl
again (FileEnds offset) = refl
again (EndCount offset) = refl
again (BytesFollow offset) = refl
again (FileLineCount offset) = refl
again (FileStartCount offset) = refl

-- THEOREM. Two refusals with the same number, place and list are the same.
pub refusal_determined : (a b : Refusal) → number_of a ≡ number_of b → place_of a ≡ place_of b → list_of a ≡ list_of b → a ≡ b
refusal_determined a b n p l = sym (again a) ∙ (rw (n, p, l) (again b))

-- THEOREM. Two results that are the same in the document's numbers are the same.
pub answer_determined : {A : Type 0} (a b : Result A Refusal) → answer_of a ≡ answer_of b → a ≡ b
answer_determined (Ok x) (Ok y) e = ap Ok (cc)
answer_determined (Ok x) (Err s) e = cc
answer_determined (Err r) (Ok y) e = cc
answer_determined (Err r) (Err s) e = ap Err (refusal_determined r s (cc) (cc) (cc))
