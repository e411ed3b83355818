-- One round of the scan rule, in the document's words. A line is in play while its rank is 0.
-- Assumes nothing.
use Rattle.std.specs.Prelude.{ℕ, ◌/◌, List, [], ◌∷◌, ◌++◌, Bool, true, false, not, length, get_or, set, replicate, eqb}
use Rattle.laws.specs.Fold.{pick, up_to, any_from, lowest}
use Rattle.network.specs.Lines.{end_one, end_two}

-- What a scan changes: the lines' ranks, and which stations are marked.
pub record Marks : Type 0 where
  pub ranks : List ℕ
  pub marked : List Bool

abbrev pub marks : List ℕ → List Bool → Marks
marks ranks marked = record { ranks = ranks; marked = marked }

-- Line p leads to station v: if it is in play and v is unmarked, the round takes it, and v is marked.
unfoldable pub take_to : ℕ → ℕ → ℕ → Marks → Marks
take_to round p v s =
    pick (eqb (get_or s.ranks p 0) 0)
    (pick (get_or s.marked v false) s (marks (set s.ranks p round) (set s.marked v true)))
    s

-- Line p, in the scan of station u: taken if it leads from u to an unmarked station.
unfoldable pub take_line : List ℕ → ℕ → ℕ → ℕ → Marks → Marks
take_line lines round u p s =
    pick (eqb (end_one lines p) u) (take_to round p (end_two lines p) s)
    (pick (eqb (end_two lines p) u) (take_to round p (end_one lines p) s) s)

-- The scan of station u takes every line in play from u to an unmarked station, and marks that station.
unfoldable pub scan_station : List ℕ → ℕ → ℕ → Marks → Marks
scan_station lines round u s = up_to (take_line lines round u) s (length lines / 2)

-- Where a round stands: the ranks, which stations are marked and which are scanned, and the order of the scans so far.
pub record Scanning : Type 0 where
  pub ranks : List ℕ
  pub marked : List Bool
  pub scanned : List Bool
  pub order : List ℕ

abbrev pub scanning : List ℕ → List Bool → List Bool → List ℕ → Scanning
scanning ranks marked scanned order = record { ranks = ranks; marked = marked; scanned = scanned; order = order }

-- Marked and unscanned.
unfoldable pub ready : List Bool → List Bool → ℕ → Bool
ready marked scanned v = pick (get_or marked v false) (not (get_or scanned v false)) false

-- Unmarked.
unfoldable pub fresh : List Bool → ℕ → Bool
fresh marked v = not (get_or marked v false)

-- The next station to scan: the lowest-numbered marked, unscanned one; if there is none, the lowest-numbered unmarked one.
unfoldable pub next_station : ℕ → List Bool → List Bool → ℕ
next_station n marked scanned =
    pick (any_from (ready marked scanned) 0 n) (lowest (ready marked scanned) n 0) (lowest (fresh marked) n 0)

-- Station u is marked and scanned, and comes next in the order.
unfoldable pub scan_as : List ℕ → ℕ → ℕ → Scanning → Scanning
scan_as lines round u s =
    let t = scan_station lines round u (marks s.ranks (set s.marked u true)) in
    scanning t.ranks t.marked (set s.scanned u true) (s.order ++ (u ∷ []))

-- One scan more.
unfoldable pub scan_next : ℕ → List ℕ → ℕ → Scanning → Scanning
scan_next n lines round s = scan_as lines round (next_station n s.marked s.scanned) s

-- Nothing is marked at the start of a round but its starting station.
abbrev pub round_start : ℕ → ℕ → List ℕ → Scanning
round_start n start ranks = scanning ranks (set (replicate n false) start true) (replicate n false) []

-- Scans until all n stations are scanned.
unfoldable pub all_scanned : ℕ → List ℕ → ℕ → Scanning → Scanning
all_scanned n lines round s = up_to (λ i. scan_next n lines round) s n

-- One round, from its starting station.
unfoldable pub one_round : ℕ → List ℕ → ℕ → ℕ → List ℕ → Scanning
one_round n lines round start ranks = all_scanned n lines round (round_start n start ranks)
