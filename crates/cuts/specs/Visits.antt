-- A pass as the code goes about it: a visit that is under way, and those that wait for it.
-- Only the helpers speak of it. Assumes nothing.
use Rattle.std.specs.Prelude.{ℕ, ◌+◌, ◌<◌, ◌≤◌, ◌≡◌, Bool, false, List, length, get_or}
use Rattle.neighbours.specs.Near.{Near}
use Rattle.cuts.specs.declared.Visit.{Visit}
use Rattle.cuts.specs.Passes.{Start, Mid}

-- What a visit holds: its station u, the place i that it looks at next, the least depth, whether another station is seen, and what it says.
pub record Holds (visit : Visit) (u i least : ℕ) (seen says : Bool) : Type 0 where
  pub station : visit.station.0 ≡ u
  pub next : visit.next.0 ≡ i
  pub low : visit.low.0 ≡ least
  pub other : visit.other ≡ seen
  pub cut : visit.cut ≡ says

-- A visit of u at depth d, which began at the depths s and the marks cut₀, is about to look at place i: the sizes are kept, and, if it could
-- begin so, all but u are done.
pub record Going (begins near s t : List ℕ) (cut₀ cut : List Bool) (u d i low : ℕ) (other says : Bool) : Type 0 where
  pub size : length t ≡ length s
  pub marks : length cut ≡ length cut₀
  pub station : u < length s
  pub past : get_or begins u 0 ≤ i
  pub mid : (lines : List ℕ) (away : ℕ → Bool) → Near (length s) lines begins near → Start (length s) lines away s u d
      → Mid (length s) lines away begins near s t cut₀ cut u d i low other says

-- The same, of a visit by what it holds.
abbrev pub Goes : List ℕ → List ℕ → List ℕ → List ℕ → List Bool → List Bool → ℕ → Visit → Type 0
Goes begins near s t cut₀ cut d visit = Going begins near s t cut₀ cut visit.station.0 d visit.next.0 visit.low.0 visit.other visit.cut

-- A visit has passed neighbours that are seen: the next one, if there is one, is not.
pub record Passed (begins near t : List ℕ) (before after : Visit) : Type 0 where
  pub station : after.station.0 ≡ before.station.0
  pub fresh : after.next.0 < get_or begins (after.station.0 + 1) 0 → get_or t (get_or near after.next.0 0) 0 ≡ 0
  pub goes : (s : List ℕ) (cut₀ cut : List Bool) (d : ℕ) → Goes begins near s t cut₀ cut d before → Goes begins near s t cut₀ cut d after

-- The visit that waits at depth d.
abbrev pub waits_at : List Visit → ℕ → Visit
waits_at waiting d = get_or waiting d (record { station = record { 0 = 0 }; next = record { 0 = 0 }; low = record { 0 = 0 }; other = false; cut = false })

-- At depth d waits `upper`, for the visit of its next neighbour, which was not seen at the depths s.
pub record Waits (begins near s : List ℕ) (waiting : List Visit) (d : ℕ) (upper visit : Visit) : Type 0 where
  pub kept : waits_at waiting d ≡ upper
  pub next : upper.next.0 < get_or begins (upper.station.0 + 1) 0
  pub leads : get_or near upper.next.0 0 ≡ visit.station.0
  pub fresh : get_or s visit.station.0 0 ≡ 0

-- The visits that are open: `visit`, at depth d, and those that wait for it. The one above all is of station a, and began at the depths
-- `first` and the marks `marks`.
pub data Open (begins near first : List ℕ) (marks : List Bool) (a : ℕ) (waiting : List Visit) : List ℕ → List Bool → ℕ → Visit → Type 0 where
  alone : {t : List ℕ} {cut : List Bool} {visit : Visit} → visit.station.0 ≡ a → Goes begins near first t marks cut 1 visit
      → Open begins near first marks a waiting t cut 1 visit
  deeper : {s t : List ℕ} {cut₀ cut : List Bool} {d : ℕ} {upper visit : Visit} → Open begins near first marks a waiting s cut₀ d upper
      → Waits begins near s waiting d upper visit → Goes begins near s t cut₀ cut (d + 1) visit
      → Open begins near first marks a waiting t cut (d + 1) visit
