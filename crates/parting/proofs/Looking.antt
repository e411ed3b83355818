-- What a look at the marks and at the table of pieces says of the stations taken away.
-- Assumes nothing.
use Prim.Native.Nat.{ℕ, ◌<◌, ◌≤◌}
use mathlib.Core.Path.{◌≡◌, refl, sym, ◌∙◌}
use mathlib.Core.Bool.{Bool, true, false, not, ◌&&◌, ◌||◌}
use mathlib.Core.List.{List, [], ◌∷◌}
use native.Mathlib.Decide.{ℕ_discrete}
use native.Mathlib.Omega.{arith}
use borrow.Author.Tests.{lt-ltb, le-ltb, eq-eqb, ne_eqb, not-false}
use lib.Dec.{eqb}
use lib.ListN.{length, set, length-set}
use lib.Seq.{get_or-set_same, get_or-set_other}
use Rattle.laws.specs.Fold.{pick, first_from, lowest}
use Rattle.laws.proofs.Fold.{first_last, lowest_none, lowest_same}
use Rattle.network.specs.Lines.{network, Proper}
use Rattle.pieces.specs.Away.{is_gone, Unmarked, Gone, is_away}
use Rattle.pieces.specs.Pieces.{pieces_of, one_piece}
use Rattle.pieces.proofs.Pieces.{pieces_alike}
use Rattle.parting.specs.Standing.{Standing.stands, Standing.weak, lowest_remaining, lowest_apart, without}
use Rattle.parting.specs.Looking.{is_apart, marked, Below}
use Rattle.parting.specs.Answers.{spot_stations}
use Rattle.parting.specs.declared.Spot.{Spot}
use Rattle.parting.specs.declared.Spot.TheVariants.{Empty, One, Two}

-- ── the stations of a list, as marks ──

module _ (n : ℕ) (lines spot : List ℕ) (gone : List Bool) (proper : Proper (network n lines)) (size : length gone ≡ n) (g : Gone spot gone) where
  remaining_same : lowest_remaining n (is_gone gone) ≡ lowest_remaining n (is_away spot)
  unfolding lowest_remaining
  remaining_same = lowest_same (λ v. not (is_gone gone v)) (λ v. not (is_away spot v)) n n (λ v l. rw (g.says v (omega arith)))

  apart_same : (pieces : List ℕ) → pieces ≡ pieces_of n lines (is_gone gone) → (a : ℕ) → lowest (is_apart gone pieces a) n n ≡ lowest_apart n lines (is_away spot) a
  unfolding lowest_apart one_piece
  apart_same pieces e a =
      lowest_same (is_apart gone pieces a) (λ v. not (is_away spot v) && not (one_piece n lines (is_away spot) a v)) n n
      (λ v l. rw (e, pieces_alike n lines proper (is_gone gone) (is_away spot) (λ w m. g.says w (omega arith)), g.says v (omega arith)))

  -- no station remains
  pub looked_none : n ≤ lowest_remaining n (is_gone gone) → stands ≡ without n lines spot
  unfolding without lowest_remaining lowest_apart
  looked_none h =
      let all : (v : ℕ) → v < n → not (is_gone gone v) ≡ false = lowest_none (λ v. not (is_gone gone v)) n h in
      let away : (v : ℕ) → v < n → is_away spot v ≡ true = λ v l. sym (g.says v (omega arith)) ∙ not-false (is_gone gone v) (all v l) in
      let a = lowest_remaining n (is_away spot) in
      let none : lowest_apart n lines (is_away spot) a ≡ n =
      first_last (λ v. not (is_away spot v) && not (one_piece n lines (is_away spot) a v)) (λ i. i) n n (λ v l. rw (away v l)) in
      rw (none, le-ltb n n (omega arith))

  -- no station is of another piece than the lowest that remains
  pub looked_whole : (pieces : List ℕ) → pieces ≡ pieces_of n lines (is_gone gone) → (a b : ℕ) → a ≡ lowest_remaining n (is_gone gone)
      → b ≡ lowest (is_apart gone pieces a) n n → n ≤ b → stands ≡ without n lines spot
  unfolding without
  looked_whole pieces e a b x y h =
      rw (← remaining_same, ← x, ← (apart_same pieces e a), ← y, le-ltb b n h)

  -- one is
  pub looked_apart : (pieces : List ℕ) → pieces ≡ pieces_of n lines (is_gone gone) → (a b : ℕ) → a ≡ lowest_remaining n (is_gone gone)
      → b ≡ lowest (is_apart gone pieces a) n n → b < n → weak spot a b ≡ without n lines spot
  unfolding without
  looked_apart pieces e a b x y h =
      rw (← remaining_same, ← x, ← (apart_same pieces e a), ← y, lt-ltb b n h)

-- ── stations taken away ──

-- No mark is set: none is taken away.
pub unmarked_gone : (gone : List Bool) → Unmarked gone → Gone [] gone
unfolding is_away first_from
unmarked_gone gone u = record { says = λ v l. u.none v l }

-- One is.
pub is_one : (x v : ℕ) → is_away (x ∷ []) v ≡ eqb x v
unfolding is_away first_from
is_one x v = go (eqb x v)
  where
    go : (b : Bool) → pick b b false ≡ b
    go true = refl
    go false = refl

pub is_two : (x y v : ℕ) → is_away (x ∷ (y ∷ [])) v ≡ (eqb x v || eqb y v)
unfolding is_away first_from
is_two x y v = go (eqb x v) (eqb y v)
  where
    go : (b c : Bool) → pick b b (pick c c false) ≡ (b || c)
    go true c = refl
    go false true = refl
    go false false = refl

-- One mark more, or one less.
mark_at : (gone : List Bool) (x : ℕ) (b : Bool) → x < length gone → (v : ℕ) → is_gone (set gone x b) v ≡ pick (eqb x v) b (is_gone gone v)
mark_at gone x b h v = go (ℕ_discrete v x)
  where
    go : Dec (v ≡ x) → is_gone (set gone x b) v ≡ pick (eqb x v) b (is_gone gone v)
    go (yes e) = rw (e, eq-eqb x x refl) (get_or-set_same gone x b false h)
    go (no m) = rw (ne_eqb x v (λ (e : x ≡ v). m (sym e))) (get_or-set_other gone x v b false m)

pub mark_one : (gone : List Bool) (x : ℕ) → Unmarked gone → x < length gone → Gone (x ∷ []) (set gone x true)
mark_one gone x u h =
    record {
      says = λ v l.
          let m : v < length gone = simp length-set at l in
          rw (mark_at gone x true h v, is_one x v, u.none v m) (go (eqb x v));
    }
  where
    go : (b : Bool) → pick b true false ≡ b
    go true = refl
    go false = refl

pub mark_two : (gone : List Bool) (x y : ℕ) → Unmarked gone → x < length gone → y < length gone → Gone (x ∷ (y ∷ [])) (set (set gone x true) y true)
mark_two gone x y u h k =
    record {
      says = λ v l.
          let m : v < length gone = simp length-set at l in
          let k' : y < length (set gone x true) = simp length-set k in
          rw (mark_at (set gone x true) y true k' v, mark_at gone x true h v, is_two x y v, u.none v m) (go (eqb x v) (eqb y v));
    }
  where
    go : (b c : Bool) → pick c true (pick b true false) ≡ (b || c)
    go true true = refl
    go true false = refl
    go false true = refl
    go false false = refl

-- ── the stations of a spot, as marks ──

pub marked_gone : (spot : Spot) (gone : List Bool) → Unmarked gone → Below (length gone) (spot_stations spot)
    → Gone (spot_stations spot) (marked (spot_stations spot) true gone)
marked_gone Empty gone u h = unmarked_gone gone u
marked_gone (One v) gone u h = mark_one gone v.0 u h.0
marked_gone (Two v w) gone u h = mark_two gone v.0 w.0 u h.0 h.1.0
