-- What is known where 10 and 11 are not given: the taken-away list is taken just when it rises strictly below n; a station may be asked about
-- just when it remains. Assumes nothing.
use Prim.Native.Nat.{ℕ, zero, suc, ◌+◌, ◌-◌, ◌<◌, ◌≤◌}
use mathlib.Core.Path.{◌≡◌, sym, ap, ◌∙◌}
use mathlib.Core.Bool.{Bool, true, false, ◌&&◌, ◌||◌, or-false, or-true}
use mathlib.Core.List.{List}
use native.Mathlib.Decide.{ℕ_discrete, dec_lt, dec_le}
use native.Mathlib.Omega.{arith}
use borrow.Author.Tests.{leb-false, lt-ltb, le-ltb, le-leb, lt-leb, eq-eqb, ne_eqb}
use lib.Dec.{ltb, leb, eqb}
use lib.ListN.{length, get_or, set}
use lib.Seq.{get_or-set_same, get_or-set_other}
use Rattle.laws.specs.Fold.{any_from}
use Rattle.laws.proofs.Fold.{first_all, first_last, any_more}
use Rattle.kinds.specs.Answers.{taken, refuse_if, ◌and_then◌, is_refused}
use Rattle.kinds.proofs.Answers.{then_both, taken_is, passed}
use Rattle.network.specs.Judging.{list_judged}
use Rattle.network.specs.Faults.{Sound}
use Rattle.network.proofs.Sound.{taken_sound}
use Rattle.pieces.specs.Away.{is_away, is_gone, Gone, Rising}
use Rattle.pieces.specs.Joined.{Remains}
use Rattle.joined.specs.Rising.{RisesAt}
use Rattle.joined.specs.Asking.{away_judged, all_away_judged, asked_judged}
use Rattle.laws.proofs.Truth.{neither}

-- ── 10 ──

module _ (n : ℕ) (away : List ℕ) where
  module _ (j : ℕ) where
    pub rises_at : is_refused (away_judged n away j) ≡ false → RisesAt n away j
    unfolding away_judged
    rises_at e =
        let up = leb (get_or away j 0) (get_or away (j - 1) 0) in
        let (x, y) = neither (leb n (get_or away j 0)) (ltb 0 j && up) (passed (leb n (get_or away j 0) || (ltb 0 j && up)) 10 j 0 e) in
        record { below = leb-false n (get_or away j 0) x; above = λ h. leb-false (get_or away j 0) (get_or away (j - 1) 0) (rw (lt-ltb 0 j h) at y) }

    at_rises : RisesAt n away j → away_judged n away j ≡ taken
    unfolding away_judged
    at_rises r = rw (lt-leb n (get_or away j 0) r.below) (go (dec_lt 0 j))
      where
        go : Dec (0 < j) → refuse_if (ltb 0 j && leb (get_or away j 0) (get_or away (j - 1) 0)) 10 j 0 ≡ taken
        go (yes h) = rw (lt-ltb 0 j h, lt-leb (get_or away j 0) (get_or away (j - 1) 0) (r.above h))
        go (no m) = rw (le-ltb 0 j (omega arith))

  -- a list that rises below n has few numbers
  high : (j : ℕ) → ((i : ℕ) → i < suc j → RisesAt n away i) → j ≤ get_or away j 0
  high zero h = omega arith
  high (suc j) h =
      let e : suc j - 1 ≡ j = omega arith in
      let r : get_or away j 0 < get_or away (suc j) 0 = rw e at ((h (suc j) (omega arith)).above (omega arith)) in
      omega (arith, high j (λ i l. h i (omega arith)))

  pub few_risen : (q : ℕ) → ((j : ℕ) → j < q → is_refused (away_judged n away j) ≡ false) → q ≤ n
  few_risen zero h = omega arith
  few_risen (suc q) h = omega (arith, high q (λ i l. rises_at i (h i l)), (rises_at q (h q (omega arith))).below)

  rising_at : Rising n away → (j : ℕ) → j < length away → RisesAt n away j
  rising_at r j l = record { below = r.below j l; above = λ h. let e : j - 1 + 1 ≡ j = omega arith in rw e at (r.above (j - 1) (omega arith)) }

  at_rising : ((j : ℕ) → j < length away → RisesAt n away j) → Rising n away
  at_rising h =
      record {
        below = λ j l. (h j l).below;
        above = λ j l. let e : j + 1 - 1 ≡ j = omega arith in rw e at ((h (j + 1) l).above (omega arith));
      }

  -- THEOREM. The list is taken just when it rises strictly below n.
  pub taken_rising : is_refused (all_away_judged n away) ≡ false → Rising n away
  unfolding all_away_judged
  taken_rising e = at_rising (λ j l. rises_at j (first_all is_refused (away_judged n away) taken (length away) e j l))

  pub rising_taken : Rising n away → all_away_judged n away ≡ taken
  unfolding all_away_judged
  rising_taken r = first_last is_refused (away_judged n away) taken (length away) (λ j l. ap is_refused (at_rises j (rising_at r j l)))

-- ── which stations are taken away, and 11 ──

module _ (away : List ℕ) (v : ℕ) where
  -- THEOREM. A station may be asked about just when it remains.
  pub asked_remains : (n which : ℕ) → is_refused (asked_judged n away which v) ≡ false → Remains n (is_away away) v
  unfolding asked_judged
  asked_remains n which e =
      let (x, y) = neither (leb n v) (is_away away v) (passed (leb n v || is_away away v) 11 which 0 e) in
      record { station = leb-false n v x; stays = y }

  pub remains_asked : (n which : ℕ) → Remains n (is_away away) v → asked_judged n away which v ≡ taken
  unfolding asked_judged
  remains_asked n which r = rw (lt-leb n v r.station, r.stays)

  -- the same, by the marks
  pub asked_marked : (n which : ℕ) (gone : List Bool) → length gone ≡ n → Gone away gone
      → refuse_if (leb n v || is_gone gone v) 11 which 0 ≡ asked_judged n away which v
  unfolding asked_judged
  asked_marked n which gone size g = go (dec_le n v)
    where
      go : Dec (n ≤ v) → refuse_if (leb n v || is_gone gone v) 11 which 0 ≡ refuse_if (leb n v || is_away away v) 11 which 0
      go (yes h) = rw (le-leb n v h)
      go (no m) = rw (g.says v (omega arith))

-- What is known once 1, 2, lines and 10 are tried, and once 11 is.
pub network_good : (n : ℕ) (lines away : List ℕ) → list_judged 0 n lines and_then all_away_judged n away ≡ taken → Sound n lines × Rising n away
network_good n lines away e =
    let (x, y) = then_both (list_judged 0 n lines) (all_away_judged n away) (ap is_refused e) in
    (taken_sound 0 n lines (taken_is (list_judged 0 n lines) x), taken_rising n away y)

pub both_remain : (n : ℕ) (away : List ℕ) (a b : ℕ) → asked_judged n away 0 a and_then asked_judged n away 1 b ≡ taken
    → Remains n (is_away away) a × Remains n (is_away away) b
both_remain n away a b e =
    let (x, y) = then_both (asked_judged n away 0 a) (asked_judged n away 1 b) (ap is_refused e) in
    (asked_remains away a n 0 x, asked_remains away b n 1 y)

-- The first j numbers of the list are marked: with one mark more, the first j + 1 are.
pub mark_next : (away : List ℕ) (gone : List Bool) (j : ℕ) → get_or away j 0 < length gone
    → ((v : ℕ) → v < length gone → is_gone gone v ≡ any_from (λ i. eqb (get_or away i 0) v) 0 j)
    → (v : ℕ) → v < length gone → is_gone (set gone (get_or away j 0) true) v ≡ any_from (λ i. eqb (get_or away i 0) v) 0 (j + 1)
mark_next away gone j l before v h = rw (any_more (λ i. eqb (get_or away i 0) v) j) (go (ℕ_discrete v (get_or away j 0)))
  where
    go : Dec (v ≡ get_or away j 0) → is_gone (set gone (get_or away j 0) true) v ≡ (any_from (λ i. eqb (get_or away i 0) v) 0 j || eqb (get_or away j 0) v)
    go (yes e) =
        rw (eq-eqb (get_or away j 0) v (sym e), or-true (any_from (λ i. eqb (get_or away i 0) v) 0 j))
        (rw e (get_or-set_same gone (get_or away j 0) true false l))
    go (no m) =
        rw (ne_eqb (get_or away j 0) v (λ (e : get_or away j 0 ≡ v). m (sym e)), or-false (any_from (λ i. eqb (get_or away i 0) v) 0 j))
        (get_or-set_other gone (get_or away j 0) v true false m ∙ before v h)
