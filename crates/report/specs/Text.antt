-- What the programs write, as bytes. keep: a header, then a row for each kept line by place. Of a refused input: one row.
-- Assumes nothing.
use Rattle.std.specs.Prelude.{ℕ, zero, suc, ◌+◌, ◌/◌, ◌%◌, List, [], ◌∷◌, ◌++◌, length, get_or, ltb, eqb}
use Rattle.laws.specs.Fold.{pick, up_to}
use Rattle.network.specs.Lines.{end_one, end_two}

-- The decimal digits of x in ASCII, the most significant first: those of x / 10, then x % 10. The first number bounds how many there are.
unfoldable pub digits : ℕ → ℕ → List ℕ
digits zero x = []
digits (suc most) x = pick (ltb x 10) ((48 + x) ∷ []) (digits most (x / 10) ++ ((48 + x % 10) ∷ []))

-- The decimal digits of x, with no zeros in front. A number has fewer digits than x + 2.
unfoldable pub decimal : ℕ → List ℕ
decimal x = digits (suc x) x

-- A word and a number.
abbrev pub field : List ℕ → ℕ → List ℕ
field word x = word ++ decimal x

-- "stations " and the number.
abbrev pub stations_text : ℕ → List ℕ
stations_text n = field (115 ∷ 116 ∷ 97 ∷ 116 ∷ 105 ∷ 111 ∷ 110 ∷ 115 ∷ 32 ∷ []) n

-- " level " and the number.
abbrev pub level_text : ℕ → List ℕ
level_text k = field (32 ∷ 108 ∷ 101 ∷ 118 ∷ 101 ∷ 108 ∷ 32 ∷ []) k

-- " lines " and the number.
abbrev pub lines_text : ℕ → List ℕ
lines_text count = field (32 ∷ 108 ∷ 105 ∷ 110 ∷ 101 ∷ 115 ∷ 32 ∷ []) count

-- " kept " and the number.
abbrev pub kept_count_text : ℕ → List ℕ
kept_count_text kept = field (32 ∷ 107 ∷ 101 ∷ 112 ∷ 116 ∷ 32 ∷ []) kept

-- "round " and the number.
abbrev pub round_text : ℕ → List ℕ
round_text rank = field (114 ∷ 111 ∷ 117 ∷ 110 ∷ 100 ∷ 32 ∷ []) rank

-- " line " and the number.
abbrev pub place_text : ℕ → List ℕ
place_text place = field (32 ∷ 108 ∷ 105 ∷ 110 ∷ 101 ∷ 32 ∷ []) place

-- " from " and the number.
abbrev pub from_text : ℕ → List ℕ
from_text one = field (32 ∷ 102 ∷ 114 ∷ 111 ∷ 109 ∷ 32 ∷ []) one

-- " to " and the number.
abbrev pub to_text : ℕ → List ℕ
to_text two = field (32 ∷ 116 ∷ 111 ∷ 32 ∷ []) two

-- "refused " and the number.
abbrev pub refused_number_text : ℕ → List ℕ
refused_number_text number = field (114 ∷ 101 ∷ 102 ∷ 117 ∷ 115 ∷ 101 ∷ 100 ∷ 32 ∷ []) number

-- " at " and the number.
abbrev pub at_text : ℕ → List ℕ
at_text place = field (32 ∷ 97 ∷ 116 ∷ 32 ∷ []) place

-- The end of a row.
abbrev pub newline : List ℕ
newline = 10 ∷ []

-- "stations N level K lines M kept C".
unfoldable pub header_text : ℕ → ℕ → ℕ → ℕ → List ℕ
header_text n k count kept = (((stations_text n ++ level_text k) ++ lines_text count) ++ kept_count_text kept) ++ newline

-- "round R line P from A to B".
unfoldable pub line_text : ℕ → ℕ → ℕ → ℕ → List ℕ
line_text rank place one two = (((round_text rank ++ place_text place) ++ from_text one) ++ to_text two) ++ newline

-- The row of the line at place p, whose rank is 0 if it is not kept: then there is none.
unfoldable pub row_text : List ℕ → List ℕ → ℕ → List ℕ
row_text lines ranks p = pick (eqb (get_or ranks p 0) 0) [] (line_text (get_or ranks p 0) p (end_one lines p) (end_two lines p))

-- One row more, that of the line at place p.
abbrev pub add_row : List ℕ → List ℕ → ℕ → List ℕ → List ℕ
add_row lines ranks p text = text ++ row_text lines ranks p

-- The rows of the kept lines, by place.
unfoldable pub kept_text : List ℕ → List ℕ → List ℕ
kept_text lines ranks = up_to (add_row lines ranks) [] (length lines / 2)

-- What keep writes of a pruned network.
unfoldable pub keep_text : ℕ → ℕ → List ℕ → List ℕ → ℕ → List ℕ
keep_text n k lines ranks kept = header_text n k (length lines / 2) kept ++ kept_text lines ranks

-- "refused N at P".
unfoldable pub refused_text : ℕ → ℕ → List ℕ
refused_text number place = (refused_number_text number ++ at_text place) ++ newline
