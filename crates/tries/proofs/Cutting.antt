-- What one pass says of each further station, where those of a set are taken away already: whether it and they part two others.
-- Assumes nothing.
use Prim.Native.Nat.{ℕ, ◌+◌, ◌-◌, ◌<◌, ◌≤◌}
use mathlib.Core.Path.{◌≡◌, refl, sym, ap, subst, ◌∙◌}
use mathlib.Core.Bool.{Bool, true, false, ◌||◌, true≢false}
use mathlib.Core.List.{List, [], ◌∷◌}
use mathlib.Core.Logic.{◌⊎◌, ◌⊎◌.inl, ◌⊎◌.inr}
use native.Mathlib.Omega.{arith}
use borrow.Author.Tests.{ne_eqb, le-ltb, lt-ltb}
use lib.Dec.{eqb, ltb}
use lib.ListN.{length, get_or, set, length-set}
use Rattle.laws.specs.Fold.{pick, first_from}
use Rattle.laws.proofs.Fold.{first_start, first_all, first_marked}
use Rattle.laws.proofs.Truth.{same_truth}
use Rattle.network.specs.Faults.{Sound}
use Rattle.pieces.specs.Joined.{Remains, Whole}
use Rattle.pieces.specs.Away.{is_away, is_gone, Unmarked, Gone}
use Rattle.neighbours.specs.Near.{Near}
use Rattle.cuts.specs.Cuts.{and_away, SaysCuts}
use Rattle.parting.specs.Standing.{Standing, Standing.stands, Standing.weak, is_weak, without}
use Rattle.tries.specs.Tries.{without_ones, without_seconds}
use Rattle.parting.specs.Parts.{Parts}
use Rattle.tries.specs.Cutting.{first_cut, single, pair, SaysWeak}
use Rattle.parting.proofs.Looking.{unmarked_gone, is_one, is_two, mark_one}
use Rattle.parting.proofs.Whole.{sturdy_whole, without_cases, whole_same}

-- If no one station is found weak, each of them is not.
pub ones_sturdy : (n : ℕ) (lines : List ℕ) → is_weak (without_ones n lines) ≡ false → (v : ℕ) → v < n → is_weak (without n lines (v ∷ [])) ≡ false
unfolding without_ones
ones_sturdy n lines e v l = first_all is_weak (λ v. without n lines (v ∷ [])) stands n e v l

-- ── one pass, with the stations of `spot` taken away, which part no two ──

module _ (n : ℕ) (lines : List ℕ) (sound : Sound n lines) (spot : List ℕ) (gone : List Bool) (size : length gone ≡ n) (marks : Gone spot gone)
    (set_of : ℕ → List ℕ) (more : (w u : ℕ) → is_away (set_of w) u ≡ (is_away spot u || eqb w u)) where
  same : (u : ℕ) → u < n → is_gone gone u ≡ is_away spot u
  same u h = marks.says u (omega arith)

  same_more : (w u : ℕ) → u < n → and_away (is_gone gone) w u ≡ is_away (set_of w) u
  same_more w u h = rw (same u h, more w u)

  spot_whole : is_weak (without n lines spot) ≡ false → Whole n lines (is_gone gone)
  spot_whole sturdy = whole_same same (sturdy_whole n lines sound spot sturdy)

  -- what the table says of a station is whether its set is weak
  cut_weak : (cut : List Bool) → SaysCuts n lines (is_gone gone) cut → (w : ℕ) → Remains n (is_gone gone) w → get_or cut w false ≡ is_weak (without n lines (set_of w))
  cut_weak cut c w stays = same_truth (get_or cut w false) (is_weak (without n lines (set_of w))) (λ e. weak_so e (is_weak (without n lines (set_of w))) refl) (λ e. cut_so e (get_or cut w false) refl)
    where
      weak_so : get_or cut w false ≡ true → (b : Bool) → is_weak (without n lines (set_of w)) ≡ b → b ≡ true
      weak_so e true f = refl
      weak_so e false f =
          let p = c.parted w stays e in
          absurd (p.apart ((whole_same (same_more w) (sturdy_whole n lines sound (set_of w) f)).joined p.one p.two p.one_remains p.two_remains))

      parted : Whole n lines (and_away (is_gone gone) w)
          → ((without n lines (set_of w) ≡ stands) × Whole n lines (is_away (set_of w)))
          ⊎ ((a b : ℕ) × (without n lines (set_of w) ≡ weak (set_of w) a b) × Parts n lines (is_away (set_of w)) a b)
          → is_weak (without n lines (set_of w)) ≡ true → ⊥
      parted h (inl x) f = true≢false (sym f ∙ ap is_weak x.0)
      parted h (inr (a, b, x, p)) f = p.apart ((whole_same (λ u m. sym (same_more w u m)) h).joined a b p.first p.second)

      cut_so : is_weak (without n lines (set_of w)) ≡ true → (b : Bool) → get_or cut w false ≡ b → b ≡ true
      cut_so f true e = refl
      cut_so f false e = absurd (parted (c.whole w stays e) (without_cases n lines sound (set_of w)) f)

  -- a pass over a table of m entries, of n stations
  pub pass_weak : (begins near : List ℕ) (cut : List Bool) (m v : ℕ) → m ≡ n
      → ((lines : List ℕ) → Near m lines begins near → Whole m lines (is_gone gone) → SaysCuts m lines (is_gone gone) cut)
      → Near n lines begins near → is_weak (without n lines spot) ≡ false → ((w : ℕ) → v ≤ w → w < n → is_away spot w ≡ false) → SaysWeak n lines set_of v cut
  pass_weak begins near cut m v e found table sturdy remain =
      record { says = λ w a b. cut_weak cut says w (record { station = b; stays = same w b ∙ remain w a b }) }
    where
      says : SaysCuts n lines (is_gone gone) cut
      says = subst (λ (x : ℕ). Near x lines begins near → Whole x lines (is_gone gone) → SaysCuts x lines (is_gone gone) cut) e (found lines) table (spot_whole sturdy)

-- With none taken away: whether a station alone parts two others.
pub ones_weak : (n : ℕ) (lines begins near : List ℕ) (gone cut : List Bool) (m : ℕ) → m ≡ n → Sound n lines → length gone ≡ n → Unmarked gone
    → ((lines : List ℕ) → Near m lines begins near → Whole m lines (is_gone gone) → SaysCuts m lines (is_gone gone) cut)
    → Near n lines begins near → is_weak (without n lines []) ≡ false → SaysWeak n lines single 0 cut
unfolding is_away first_from
ones_weak n lines begins near gone cut m e sound size none found table sturdy =
    pass_weak n lines sound [] gone size (unmarked_gone gone none) single (λ w u. is_one w u) begins near cut m 0 e found table sturdy (λ w a b. refl)

-- With a first one taken away: whether it and a higher one do.
pub seconds_weak : (n : ℕ) (begins near : List ℕ) (gone cut : List Bool) (m v : ℕ) → m ≡ n → v < n → length gone ≡ n → Unmarked gone
    → ((lines : List ℕ) → Near m lines begins near → Whole m lines (is_gone (set gone v true)) → SaysCuts m lines (is_gone (set gone v true)) cut)
    → (lines : List ℕ) → Sound n lines → Near n lines begins near → is_weak (without n lines (v ∷ [])) ≡ false → SaysWeak n lines (pair v) (v + 1) cut
seconds_weak n begins near gone cut m v e l size none found lines sound table sturdy =
    pass_weak n lines sound (v ∷ []) (set gone v true) (length-set gone v true ∙ size) (mark_one gone v none (omega arith)) (pair v)
    (λ w u. is_two v w u ∙ rw (is_one v u)) begins near cut m (v + 1) e found table sturdy
    (λ w a b. is_one v w ∙ ne_eqb v w (λ (q : v ≡ w). omega arith))

-- ── the first station that the table marks ──

-- The first set that is weak is that of the first station marked.
module _ {n : ℕ} {lines : List ℕ} {set_of : ℕ → List ℕ} {v : ℕ} {cut : List Bool} (size : length cut ≡ n) (from : v ≤ n) (says : SaysWeak n lines set_of v cut) where
  abbrev tried : ℕ → Standing
  tried w = without n lines (set_of w)

  -- the answers of the tries, by the first station marked
  by_first : first_from is_weak tried stands v (n - v) ≡ pick (ltb (first_cut cut v) n) (tried (first_cut cut v)) stands
  unfolding first_cut
  by_first = rw size (first_marked is_weak tried stands (λ w. get_or cut w false) n (n - v) v (omega arith) (λ w a b. says.says w a (omega arith)))

  none_marked : n ≤ first_cut cut v → stands ≡ first_from is_weak tried stands v (n - v)
  none_marked h = sym (by_first ∙ rw (le-ltb (first_cut cut v) n h))

  first_one_marked : first_cut cut v < n → tried (first_cut cut v) ≡ first_from is_weak tried stands v (n - v)
  first_one_marked h = sym (by_first ∙ rw (lt-ltb (first_cut cut v) n h))

module _ {n : ℕ} {lines : List ℕ} {cut : List Bool} (size : length cut ≡ n) (says : SaysWeak n lines single 0 cut) where
  pub ones_none : n ≤ first_cut cut 0 → stands ≡ without_ones n lines
  unfolding without_ones
  ones_none h = none_marked size (omega arith) says h ∙ sym (first_start is_weak (λ v. without n lines (v ∷ [])) stands n)

  pub ones_first : first_cut cut 0 < n → without n lines (first_cut cut 0 ∷ []) ≡ without_ones n lines
  unfolding without_ones
  ones_first h = first_one_marked size (omega arith) says h ∙ sym (first_start is_weak (λ v. without n lines (v ∷ [])) stands n)

module _ {n v : ℕ} {lines : List ℕ} {cut : List Bool} (size : length cut ≡ n) (below : v < n) (says : SaysWeak n lines (pair v) (v + 1) cut) where
  pub seconds_none : n ≤ first_cut cut (v + 1) → stands ≡ without_seconds n lines v
  unfolding without_seconds
  seconds_none h = none_marked size (omega arith) says h

  pub seconds_first : first_cut cut (v + 1) < n → without n lines (v ∷ (first_cut cut (v + 1) ∷ [])) ≡ without_seconds n lines v
  unfolding without_seconds
  seconds_first h = first_one_marked size (omega arith) says h
