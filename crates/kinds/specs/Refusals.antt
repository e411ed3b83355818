-- The document's numbers for each refusal: its number, its place, and which list it speaks of.
-- Assumes nothing.
use Rattle.std.specs.Prelude.{ℕ}
use Rattle.kinds.specs.declared.LineList.{LineList}
use Rattle.kinds.specs.declared.LineList.TheVariants.{Only, First as FirstList, Second as SecondList}
use Rattle.kinds.specs.declared.Asked.{Asked}
use Rattle.kinds.specs.declared.Asked.TheVariants.{First, Second}
use Rattle.kinds.specs.declared.Refusal.{Refusal}
use Rattle.kinds.specs.declared.Refusal.TheVariants.{StationCount, LineCount, LevelRange, StartCount, Room, EndOutside, EndsEqual, StoodEarlier, StartOutside, TakenAway, AskedStation, WeakLevel, UnionCount, Mark, FileEnds, EndCount, BytesFollow, FileLineCount, FileStartCount}

-- "Refusals 2, 6, 7 and 8 say which list": 0 where there is but one, 1 the first, 2 the second of a union.
abbrev pub list_number : LineList → ℕ
list_number Only = 0
list_number FirstList = 1
list_number SecondList = 2

-- "0 for the first asked station and 1 for the second".
abbrev pub asked_number : Asked → ℕ
asked_number First = 0
asked_number Second = 1

-- The number of the table's row.
abbrev pub number_of : Refusal → ℕ
number_of StationCount = 1
number_of (LineCount list) = 2
number_of LevelRange = 3
number_of StartCount = 4
number_of Room = 5
number_of (EndOutside list place) = 6
number_of (EndsEqual list place) = 7
number_of (StoodEarlier list place) = 8
number_of (StartOutside round) = 9
number_of (TakenAway position) = 10
number_of (AskedStation asked) = 11
number_of WeakLevel = 12
number_of UnionCount = 13
number_of (Mark offset) = 20
number_of (FileEnds offset) = 21
number_of (EndCount offset) = 22
number_of (BytesFollow offset) = 23
number_of (FileLineCount offset) = 2
number_of (FileStartCount offset) = 4

-- The place: a line's place, a round, an index, an offset; 0 unless a row or section names one.
abbrev pub place_of : Refusal → ℕ
place_of StationCount = 0
place_of (LineCount list) = 0
place_of LevelRange = 0
place_of StartCount = 0
place_of Room = 0
place_of (EndOutside list place) = place.0
place_of (EndsEqual list place) = place.0
place_of (StoodEarlier list place) = place.0
place_of (StartOutside round) = round.0
place_of (TakenAway position) = position.0
place_of (AskedStation asked) = asked_number asked
place_of WeakLevel = 0
place_of UnionCount = 0
place_of (Mark offset) = offset.0
place_of (FileEnds offset) = offset.0
place_of (EndCount offset) = offset.0
place_of (BytesFollow offset) = offset.0
place_of (FileLineCount offset) = offset.0
place_of (FileStartCount offset) = offset.0

-- Which list: of a union the first (1) or the second (2); 3 for the records of a file; else 0.
abbrev pub list_of : Refusal → ℕ
list_of StationCount = 0
list_of (LineCount list) = list_number list
list_of LevelRange = 0
list_of StartCount = 0
list_of Room = 0
list_of (EndOutside list place) = list_number list
list_of (EndsEqual list place) = list_number list
list_of (StoodEarlier list place) = list_number list
list_of (StartOutside round) = 0
list_of (TakenAway position) = 0
list_of (AskedStation asked) = 0
list_of WeakLevel = 0
list_of UnionCount = 0
list_of (Mark offset) = 3
list_of (FileEnds offset) = 3
list_of (EndCount offset) = 3
list_of (BytesFollow offset) = 3
list_of (FileLineCount offset) = 3
list_of (FileStartCount offset) = 3
