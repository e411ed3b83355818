-- One set of stations, taken away: it parts no two, or the lowest remaining station from the lowest that is not joined to it.
-- Assumes nothing.
use Prim.Native.Nat.{ℕ, ◌<◌}
use mathlib.Core.Path.{◌≡◌, refl, sym, ap, ◌∙◌}
use mathlib.Core.Bool.{Bool, true, false, not, ◌&&◌, true≢false}
use mathlib.Core.List.{List}
use mathlib.Core.Logic.{◌⊎◌, ◌⊎◌.inl, ◌⊎◌.inr}
use native.Mathlib.Omega.{arith}
use borrow.Author.Tests.{lt-ltb, le-ltb, not-false, not-true}
use Rattle.laws.specs.Fold.{lowest}
use Rattle.laws.proofs.Fold.{FoundAt, FoundNone, first_cases}
use Rattle.network.proofs.Chains.{chain_stays}
use Rattle.network.specs.Faults.{Sound}
use Rattle.pieces.specs.Joined.{Remains, Joined, Whole}
use Rattle.pieces.specs.Away.{is_away}
use Rattle.pieces.specs.Pieces.{one_piece}
use Rattle.pieces.proofs.Chains.{joined_back, joined_then, one_piece_joined, joined_one_piece}
use Rattle.parting.specs.Standing.{Standing.stands, Standing.weak, is_weak, lowest_remaining, lowest_apart, without}
use Rattle.parting.specs.Parts.{Parts}
use Rattle.parting.proofs.Remaining.{lowest_remains}

and-false : (b c : Bool) → (not b && not c) ≡ false → b ≡ false → c ≡ true
and-false true c e f = absurd (true≢false f)
and-false false c e f = not-false c e

and-true : (b c : Bool) → (not b && not c) ≡ true → (b ≡ false) × (c ≡ false)
and-true true c e = absurd (true≢false (sym e))
and-true false c e = (refl, not-true c e)

module _ (n : ℕ) (lines : List ℕ) (sound : Sound n lines) (spot : List ℕ) where
  abbrev low : ℕ
  low = lowest_remaining n (is_away spot)

  abbrev apart : ℕ → Bool
  apart v = not (is_away spot v) && not (one_piece n lines (is_away spot) low v)

  -- a remaining station that does not pass the test is joined to the lowest
  passed_joined : (v : ℕ) → Remains n (is_away spot) v → apart v ≡ false → Joined n lines (is_away spot) low v
  passed_joined v r e =
      one_piece_joined n lines (is_away spot) sound.simple.proper (lowest_remains n (is_away spot) v r).remains r
      (and-false (is_away spot v) (one_piece n lines (is_away spot) low v) e r.stays)

  pub without_cases : ((without n lines spot ≡ stands) × Whole n lines (is_away spot))
      ⊎ ((a b : ℕ) × (without n lines spot ≡ weak spot a b) × Parts n lines (is_away spot) a b)
  unfolding without lowest_apart
  without_cases = go (first_cases apart (λ v. v) n 0 n)
    where
      go : FoundAt apart (λ v. v) 0 n (lowest apart n n) ⊎ FoundNone apart (λ v. v) n 0 n (lowest apart n n)
          → ((without n lines spot ≡ stands) × Whole n lines (is_away spot)) ⊎ ((a b : ℕ) × (without n lines spot ≡ weak spot a b) × Parts n lines (is_away spot) a b)
      go (inr r) =
          inl (
            rw (r.is, le-ltb n n (omega arith)),
            record {
              joined = λ u v s t.
                  joined_then n lines (is_away spot)
                  (joined_back n lines (is_away spot) (passed_joined u s (r.none u (omega arith) (omega (arith, s.station)))))
                  (passed_joined v t (r.none v (omega arith) (omega (arith, t.station))));
            },
          )
      go (inl r) =
          let (x, y) = and-true (is_away spot r.place) (one_piece n lines (is_away spot) low r.place) r.passes in
          let b_in : r.place < n = omega (arith, r.below) in
          let second : Remains n (is_away spot) r.place = record { station = b_in; stays = x } in
          let least = lowest_remains n (is_away spot) r.place second in
          inr (
            low,
            r.place,
            rw (r.is, lt-ltb r.place n b_in),
            record {
              first = least.remains;
              lowest = least.lowest;
              second = second;
              apart = λ c. true≢false (sym (joined_one_piece n lines (is_away spot) sound.simple.proper c) ∙ y);
              below = λ v s l. passed_joined v s (r.earlier v (omega arith) l);
            },
          )

  -- a set that is not found weak parts no two
  pub sturdy_whole : is_weak (without n lines spot) ≡ false → Whole n lines (is_away spot)
  sturdy_whole e = go without_cases
    where
      go : ((without n lines spot ≡ stands) × Whole n lines (is_away spot)) ⊎ ((a b : ℕ) × (without n lines spot ≡ weak spot a b) × Parts n lines (is_away spot) a b)
          → Whole n lines (is_away spot)
      go (inl w) = w.1
      go (inr (a, b, f, p)) = absurd (true≢false (sym (ap is_weak f) ∙ e))

-- ── the same set, told in two ways ──

pub whole_same : {n : ℕ} {lines : List ℕ} {away other : ℕ → Bool} → ((u : ℕ) → u < n → away u ≡ other u) → Whole n lines other → Whole n lines away
whole_same {n} {lines} {away} {other} same w =
    record {
      joined = λ u v s t.
          let s' : Remains n other u = record { station = s.station; stays = sym (same u s.station) ∙ s.stays } in
          let t' : Remains n other v = record { station = t.station; stays = sym (same v t.station) ∙ t.stays } in
          chain_stays (λ x (r : Remains n other x). record { station = r.station; stays = same x r.station ∙ r.stays }) (w.joined u v s' t');
    }
