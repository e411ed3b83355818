-- How the cut stations are found: a depth-first pass, which gives each station that it comes to a depth.
-- Only the helpers speak of it. Assumes nothing.
use Rattle.std.specs.Prelude.{ℕ, ◌<◌, ◌≤◌, ◌≡◌, ◌≢◌, Bool, true, false, List, length, get_or, eqb}
use Rattle.laws.specs.Count.{count}
use Rattle.network.specs.Chains.{Chain}
use Rattle.pieces.specs.Joined.{Remains, Joined, Parted}
use Rattle.neighbours.specs.Near.{Line, Near}
use Rattle.cuts.specs.Cuts.{and_away}

-- A station that the pass has come to: it remains, and has a depth. (A station that is taken away has a depth that none else has.)
pub record Seen (n : ℕ) (away : ℕ → Bool) (depths : List ℕ) (v : ℕ) : Type 0 where
  pub remains : Remains n away v
  pub deep : get_or depths v 0 ≢ 0

-- The pass has come to the station since its depths were `before`.
pub record New (n : ℕ) (away : ℕ → Bool) (before depths : List ℕ) (v : ℕ) : Type 0 where
  pub seen : Seen n away depths v
  pub fresh : get_or before v 0 ≡ 0

-- What is said of z is right among the stations seen: it is a cut station, or the others are joined without it.
pub record Right (n : ℕ) (lines : List ℕ) (away : ℕ → Bool) (depths : List ℕ) (says : Bool) (z : ℕ) : Type 0 where
  pub parted : says ≡ true → Parted n lines (and_away away z)
  pub joined : says ≡ false → (x y : ℕ) → Seen n away depths x → Seen n away depths y → x ≢ z → y ≢ z → Joined n lines (and_away away z) x y

-- A visit of station u at depth d may begin: what is seen is joined by what is seen, is next to u, and has all its neighbours seen
-- unless its depth is below d. At depth 1 nothing is seen.
pub record Start (n : ℕ) (lines : List ℕ) (away : ℕ → Bool) (s : List ℕ) (u d : ℕ) : Type 0 where
  pub gone : (v : ℕ) → v < n → away v ≡ true → 1024 < get_or s v 0
  pub station : u < n
  pub fresh : get_or s u 0 ≡ 0
  pub some : 1 ≤ d
  pub most : d ≤ 1024
  pub above : (y z : ℕ) → Seen n away s y → Remains n away z → get_or s z 0 ≡ 0 → Line n lines y z → get_or s y 0 < d
  pub linked : (y z : ℕ) → Seen n away s y → Seen n away s z → Chain (Line n lines) (Seen n away s) y z
  pub alone : d ≡ 1 → (y : ℕ) → ¬ Seen n away s y
  pub other : 1 < d → (x : ℕ) × Seen n away s x × Line n lines x u

-- A line leads from what is new to what was seen before at a depth of at most `low`.
pub record Met (n : ℕ) (lines : List ℕ) (away : ℕ → Bool) (s t : List ℕ) (low : ℕ) : Type 0 where
  pub from : ℕ
  pub to : ℕ
  pub new : New n away s t from
  pub seen : Seen n away s to
  pub line : Line n lines from to
  pub high : get_or s to 0 ≤ low

-- What a visit of u at depth d has done, of those new stations that are `done`: `low` is the least depth, d or above, that they are next to.
pub record Grown (n : ℕ) (lines : List ℕ) (away : ℕ → Bool) (done : ℕ → Type 0) (s t : List ℕ) (cut₀ cut : List Bool) (u d low : ℕ) : Type 0 where
  pub kept : (v : ℕ) → get_or s v 0 ≢ 0 → get_or t v 0 ≡ get_or s v 0
  pub cut_kept : (v : ℕ) → get_or s v 0 ≢ 0 → get_or cut v false ≡ get_or cut₀ v false
  pub here : get_or t u 0 ≡ d
  pub deep : (z : ℕ) → New n away s t z → d ≤ get_or t z 0
  pub joined : (z : ℕ) → New n away s t z → Chain (Line n lines) (New n away s t) z u
  pub met : low < d → Met n lines away s t low
  pub closed : (z y : ℕ) → done z → New n away s t z → Remains n away y → Line n lines z y → Seen n away t y
  pub least : (z y : ℕ) → done z → New n away s t z → Seen n away s y → Line n lines z y → low ≤ get_or s y 0
  pub right : (z : ℕ) → done z → New n away s t z → Right n lines away t (get_or cut z false) z

-- All are done.
abbrev pub Ended : ℕ → List ℕ → (ℕ → Bool) → List ℕ → List ℕ → List Bool → List Bool → ℕ → ℕ → ℕ → Type 0
Ended n lines away s t cut₀ cut u d low = Grown n lines away (λ z. Unit {0}) s t cut₀ cut u d low

-- What a visit of u has done before it looks at place i: all but u are done. `other`: whether another station than u is seen.
pub record Mid (n : ℕ) (lines : List ℕ) (away : ℕ → Bool) (begins near s t : List ℕ) (cut₀ cut : List Bool) (u d i low : ℕ) (other says : Bool) : Type 0 where
  pub grown : Grown n lines away (λ z. z ≢ u) s t cut₀ cut u d low
  pub own : low ≤ d
  pub looked : (j : ℕ) → get_or begins u 0 ≤ j → j < i → Remains n away (get_or near j 0) → Seen n away t (get_or near j 0)
  pub lowest : (j : ℕ) → get_or begins u 0 ≤ j → j < i → Seen n away s (get_or near j 0) → low ≤ get_or s (get_or near j 0) 0
  pub mine : Right n lines away t says u
  pub others : other ≡ true → (y : ℕ) × Seen n away t y × (y ≢ u)
  pub no_others : other ≡ false → (y : ℕ) → Seen n away t y → y ≡ u

-- How many stations have no depth.
unfoldable pub unseen : List ℕ → ℕ
unseen depths = count (length depths) (λ v. eqb (get_or depths v 0) 0)

-- The depth of a station before a pass.
abbrev pub first_depth : Bool → ℕ
first_depth true = 65535
first_depth false = 0

-- Before a pass: each station that remains has no depth, and each that is taken away has one that none else has.
pub record Unseen (n : ℕ) (away : ℕ → Bool) (s : List ℕ) : Type 0 where
  pub gone : (v : ℕ) → v < n → away v ≡ true → 1024 < get_or s v 0
  pub fresh : (v : ℕ) → Remains n away v → get_or s v 0 ≡ 0

-- What a visit leaves: tables of the same sizes, and, if it may begin so, all done.
pub record Visited (begins near s t : List ℕ) (cut₀ cut : List Bool) (u d low : ℕ) : Type 0 where
  pub size : length t ≡ length s
  pub marks : length cut ≡ length cut₀
  pub ended : (lines : List ℕ) (away : ℕ → Bool) → Near (length s) lines begins near → Start (length s) lines away s u d → Ended (length s) lines away s t cut₀ cut u d low
