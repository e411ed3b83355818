-- What weak writes, as bytes: a header, then a row that tells whether the network stands.
-- Assumes nothing.
use Rattle.std.specs.Prelude.{ℕ, Bool, List, [], ◌∷◌, ◌++◌, ltb}
use Rattle.report.specs.Text.{field, stations_text, level_text, lines_text, from_text, newline}
use Rattle.parting.specs.Standing.{Standing, Standing.stands, Standing.weak}

-- "stations N level K lines M".
unfoldable pub weak_header_text : ℕ → ℕ → ℕ → List ℕ
weak_header_text n k count = ((stations_text n ++ level_text k) ++ lines_text count) ++ newline

-- "stands".
abbrev pub stands_text : List ℕ
stands_text = 115 ∷ 116 ∷ 97 ∷ 110 ∷ 100 ∷ 115 ∷ 10 ∷ []

-- "weak".
abbrev pub weak_word : List ℕ
weak_word = 119 ∷ 101 ∷ 97 ∷ 107 ∷ []

-- A space and a station.
abbrev pub station_text : ℕ → List ℕ
station_text v = field (32 ∷ []) v

-- The stations of a spot, each after a space.
unfoldable pub spot_text : List ℕ → List ℕ
spot_text [] = []
spot_text (v ∷ spot) = station_text v ++ spot_text spot

-- " parts " and the number.
abbrev pub parts_text : ℕ → List ℕ
parts_text a = field (32 ∷ 112 ∷ 97 ∷ 114 ∷ 116 ∷ 115 ∷ 32 ∷ []) a

-- "weak", the spot's stations, "parts A from B".
unfoldable pub weak_row_text : List ℕ → ℕ → ℕ → List ℕ
weak_row_text spot a b = (((weak_word ++ spot_text spot) ++ parts_text a) ++ from_text b) ++ newline

-- The row of a network that stands, or of its weak spot.
abbrev pub standing_text : Standing → List ℕ
standing_text stands = stands_text
standing_text (weak spot a b) = weak_row_text spot a b

-- What weak writes of a network with this many lines.
unfoldable pub weak_text : ℕ → ℕ → ℕ → Standing → List ℕ
weak_text n k count standing = weak_header_text n k count ++ standing_text standing

-- Whether a buffer has too little room for what weak writes.
unfoldable pub weak_short : ℕ → Bool
weak_short room = ltb room 256
