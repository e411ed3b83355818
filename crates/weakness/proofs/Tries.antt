-- The search's answer, by the sets that it tries: the first one that is weak, or that none is.
-- Assumes nothing.

-- ── sets of at most two stations ──

use Prim.Native.Nat.{ℕ, zero, suc, ◌+◌, ◌-◌, ◌<◌, ◌≤◌}
use mathlib.Core.Path.{◌≡◌, refl, sym, ap, ◌∙◌}
use mathlib.Core.Bool.{Bool, true, false, true≢false}
use mathlib.Core.List.{List, [], ◌∷◌}
use mathlib.Core.Logic.{◌⊎◌, ◌⊎◌.inl, ◌⊎◌.inr}
use native.Mathlib.Decide.{dec_le}
use native.Mathlib.Omega.{arith}
use borrow.Author.Tests.{le-leb, lt-leb}
use lib.ListN.{length, get_or}
use Rattle.laws.proofs.Fold.{FoundAt, FoundNone, first_cases}
use Rattle.pieces.specs.Away.{Rising}
use Rattle.parting.specs.Standing.{Standing.stands, is_weak, without}
use Rattle.tries.specs.Tries.{without_ones, without_seconds, without_twos, weak_spot}
use Rattle.weakness.specs.Spots.{Tried, Earlier, Earlier.fewer, Earlier.first, Earlier.second}
use Rattle.tries.proofs.Standing.{else_weak, else_next}

pub none_rising : (n : ℕ) → Rising n []
none_rising n = record { below = λ j l. absurd (omega arith); above = λ j l. absurd (omega arith) }

pub one_rising : (n v : ℕ) → v < n → Rising n (v ∷ [])
one_rising n v h = record { below = go; above = λ j l. absurd (omega arith) }
  where
    go : (j : ℕ) → j < 1 → get_or (v ∷ []) j 0 < n
    go zero l = h
    go (suc j) l = absurd (omega arith)

pub two_rising : (n v w : ℕ) → v < w → w < n → Rising n (v ∷ (w ∷ []))
two_rising n v w h k = record { below = go; above = up }
  where
    go : (j : ℕ) → j < 2 → get_or (v ∷ (w ∷ [])) j 0 < n
    go zero l = omega arith
    go (suc zero) l = k
    go (suc (suc j)) l = absurd (omega arith)

    up : (j : ℕ) → j + 1 < 2 → get_or (v ∷ (w ∷ [])) j 0 < get_or (v ∷ (w ∷ [])) (j + 1) 0
    up zero l = h
    up (suc j) l = absurd (omega arith)

pub rising_one : {n v : ℕ} → Rising n (v ∷ []) → v < n
rising_one r = r.below 0 (omega arith)

pub rising_two : {n v w : ℕ} → Rising n (v ∷ (w ∷ [])) → (v < w) × (w < n)
rising_two r = (r.above 0 (omega arith), r.below 1 (omega arith))

-- which sets come before a set of none, of one, of two
before_none : (s : List ℕ) → ¬ Earlier s []
before_none s (fewer h) = omega arith
before_none [] (first e h) = omega arith
before_none [] (second e f h) = omega arith
before_none (x ∷ s) (first e h) = omega arith
before_none (x ∷ s) (second e f h) = omega arith

before_one : {v x : ℕ} → Earlier (v ∷ []) (x ∷ []) → v < x
before_one (fewer h) = omega arith
before_one (first e h) = h
before_one (second e f h) = omega arith

before_two : {v w x y : ℕ} → Earlier (v ∷ (w ∷ [])) (x ∷ (y ∷ [])) → (v < x) ⊎ ((v ≡ x) × (w < y))
before_two (fewer h) = absurd (omega arith)
before_two (first e h) = inl h
before_two (second e f h) = inr (f, h)

not_longer : {s t : List ℕ} → length t < length s → ¬ Earlier s t
not_longer l (fewer h) = omega arith
not_longer l (first e h) = omega arith
not_longer l (second e f h) = omega arith

-- ── each kind of set ──

module _ (n : ℕ) (lines : List ℕ) where
  -- the set of these stations parts no two others, as the definition tells it
  abbrev Sturdy : List ℕ → Type 0
  Sturdy spot = is_weak (without n lines spot) ≡ false

  -- all sets of one
  abbrev OnesSturdy : Type 0
  OnesSturdy = (v : ℕ) → v < n → Sturdy (v ∷ [])

  -- the first set of one that is weak
  record FirstOne : Type 0 where
    one : ℕ
    below : one < n
    is : without_ones n lines ≡ without n lines (one ∷ [])
    parts : is_weak (without n lines (one ∷ [])) ≡ true
    earlier : (v : ℕ) → v < one → Sturdy (v ∷ [])

  ones_cases : FirstOne ⊎ ((without_ones n lines ≡ stands) × OnesSturdy)
  unfolding without_ones
  ones_cases = go (first_cases is_weak (λ v. without n lines (v ∷ [])) stands 0 n)
    where
      go : FoundAt is_weak (λ v. without n lines (v ∷ [])) 0 n (without_ones n lines) ⊎ FoundNone is_weak (λ v. without n lines (v ∷ [])) stands 0 n (without_ones n lines)
          → FirstOne ⊎ ((without_ones n lines ≡ stands) × OnesSturdy)
      go (inl r) = inl (record { one = r.place; below = omega (arith, r.below); is = r.is; parts = r.passes; earlier = λ v l. r.earlier v (omega arith) l })
      go (inr r) = inr (r.is, λ v l. r.none v (omega arith) (omega arith))

  -- all sets of two with this first
  abbrev SecondsSturdy : ℕ → Type 0
  SecondsSturdy v = (w : ℕ) → v < w → w < n → Sturdy (v ∷ (w ∷ []))

  record FirstSecond (v : ℕ) : Type 0 where
    two : ℕ
    above : v < two
    below : two < n
    is : without_seconds n lines v ≡ without n lines (v ∷ (two ∷ []))
    parts : is_weak (without n lines (v ∷ (two ∷ []))) ≡ true
    earlier : (w : ℕ) → v < w → w < two → Sturdy (v ∷ (w ∷ []))

  seconds_cases : (v : ℕ) → FirstSecond v ⊎ ((without_seconds n lines v ≡ stands) × SecondsSturdy v)
  unfolding without_seconds
  seconds_cases v = go (first_cases is_weak (λ w. without n lines (v ∷ (w ∷ []))) stands (v + 1) (n - (v + 1)))
    where
      go : FoundAt is_weak (λ w. without n lines (v ∷ (w ∷ []))) (v + 1) (n - (v + 1)) (without_seconds n lines v)
          ⊎ FoundNone is_weak (λ w. without n lines (v ∷ (w ∷ []))) stands (v + 1) (n - (v + 1)) (without_seconds n lines v)
          → FirstSecond v ⊎ ((without_seconds n lines v ≡ stands) × SecondsSturdy v)
      go (inl r) =
          inl (record {
            two = r.place;
            above = omega (arith, r.above);
            below = omega (arith, r.above, r.below);
            is = r.is;
            parts = r.passes;
            earlier = λ w a b. r.earlier w (omega arith) b;
          })
      go (inr r) = inr (r.is, λ w a b. r.none w (omega arith) (omega arith))

  -- a first that is found not weak has no weak second
  seconds_sturdy : (v : ℕ) → is_weak (without_seconds n lines v) ≡ false → SecondsSturdy v
  seconds_sturdy v e = go (seconds_cases v)
    where
      go : FirstSecond v ⊎ ((without_seconds n lines v ≡ stands) × SecondsSturdy v) → SecondsSturdy v
      go (inl r) = absurd (true≢false (sym r.parts ∙ (ap is_weak (sym r.is) ∙ e)))
      go (inr r) = r.1

  abbrev TwosSturdy : Type 0
  TwosSturdy = (v w : ℕ) → v < w → w < n → Sturdy (v ∷ (w ∷ []))

  record FirstTwo : Type 0 where
    one : ℕ
    second : FirstSecond one
    is : without_twos n lines ≡ without_seconds n lines one
    earlier : (v w : ℕ) → v < one → v < w → w < n → Sturdy (v ∷ (w ∷ []))

  twos_cases : FirstTwo ⊎ ((without_twos n lines ≡ stands) × TwosSturdy)
  unfolding without_twos
  twos_cases = go (first_cases is_weak (without_seconds n lines) stands 0 n)
    where
      go : FoundAt is_weak (without_seconds n lines) 0 n (without_twos n lines) ⊎ FoundNone is_weak (without_seconds n lines) stands 0 n (without_twos n lines)
          → FirstTwo ⊎ ((without_twos n lines ≡ stands) × TwosSturdy)
      go (inl r) = inl (at (seconds_cases r.place))
        where
          at : FirstSecond r.place ⊎ ((without_seconds n lines r.place ≡ stands) × SecondsSturdy r.place) → FirstTwo
          at (inl s) = record { one = r.place; second = s; is = r.is; earlier = λ v w l a b. seconds_sturdy v (r.earlier v (omega arith) l) w a b }
          at (inr s) = absurd (true≢false (sym r.passes ∙ ap is_weak s.0))
      go (inr r) = inr (r.is, λ v w a b. seconds_sturdy v (r.none v (omega arith) (omega arith)) w a b)

  -- ── all of them ──

  module _ (k : ℕ) where
    -- the first set that is weak
    pub record FirstWeak : Type 0 where
      pub spot : List ℕ
      pub tried : Tried n k spot
      pub is : weak_spot n k lines ≡ without n lines spot
      pub parts : is_weak (without n lines spot) ≡ true
      pub earlier : (s : List ℕ) → Tried n k s → Earlier s spot → is_weak (without n lines s) ≡ false

    -- no set is
    pub record NoneWeak : Type 0 where
      pub is : weak_spot n k lines ≡ stands
      pub none : (s : List ℕ) → Tried n k s → is_weak (without n lines s) ≡ false

    module _ (some : 1 ≤ k) (most : k ≤ 3) where
      -- the tries after that of no station
      pub tries : FirstWeak ⊎ NoneWeak
      unfolding weak_spot
      tries = empty (is_weak (without n lines [])) refl
        where
          twos : Sturdy [] → OnesSturdy → 3 ≤ k → without_ones n lines ≡ stands → FirstTwo ⊎ ((without_twos n lines ≡ stands) × TwosSturdy) → FirstWeak ⊎ NoneWeak
          twos e o h s (inl r) =
              inl (record {
                spot = r.one ∷ (r.second.two ∷ []);
                tried = record { few = omega arith; rising = two_rising n r.one r.second.two r.second.above r.second.below };
                is = else_next (without n lines []) _ e ∙ rw (le-leb 2 k (omega arith), s, le-leb 3 k h) (r.is ∙ r.second.is);
                parts = r.second.parts;
                earlier = before;
              })
            where
              before : (t : List ℕ) → Tried n k t → Earlier t (r.one ∷ (r.second.two ∷ [])) → Sturdy t
              before [] d f = e
              before (v ∷ []) d f = o v (rising_one d.rising)
              before (v ∷ (w ∷ [])) d f = at (before_two f)
                where
                  at : (v < r.one) ⊎ ((v ≡ r.one) × (w < r.second.two)) → Sturdy (v ∷ (w ∷ []))
                  at (inl l) = let (a, b) = rising_two d.rising in r.earlier v w l a b
                  at (inr (same, l)) = let (a, b) = rising_two d.rising in rw same (r.second.earlier w (omega arith) l)
              before (v ∷ (w ∷ (x ∷ t))) d f = absurd (omega (arith, d.few))
          twos e o h s (inr r) =
              inr (record {
                is = else_next (without n lines []) _ e ∙ rw (le-leb 2 k (omega arith), s, le-leb 3 k h) r.0;
                none = all;
              })
            where
              all : (t : List ℕ) → Tried n k t → Sturdy t
              all [] d = e
              all (v ∷ []) d = o v (rising_one d.rising)
              all (v ∷ (w ∷ [])) d = let (a, b) = rising_two d.rising in r.1 v w a b
              all (v ∷ (w ∷ (x ∷ t))) d = absurd (omega (arith, d.few))

          third : Sturdy [] → OnesSturdy → 2 ≤ k → without_ones n lines ≡ stands → Dec (3 ≤ k) → FirstWeak ⊎ NoneWeak
          third e o h s (yes l) = twos e o l s twos_cases
          third e o h s (no m) =
              inr (record { is = else_next (without n lines []) _ e ∙ rw (le-leb 2 k h, s, lt-leb 3 k (omega arith)); none = all })
            where
              all : (t : List ℕ) → Tried n k t → Sturdy t
              all [] d = e
              all (v ∷ []) d = o v (rising_one d.rising)
              all (v ∷ (w ∷ t)) d = absurd (omega (arith, d.few))

          ones : Sturdy [] → 2 ≤ k → FirstOne ⊎ ((without_ones n lines ≡ stands) × OnesSturdy) → FirstWeak ⊎ NoneWeak
          ones e h (inr r) = third e r.1 h r.0 (dec_le 3 k)
          ones e h (inl r) =
              inl (record {
                spot = r.one ∷ [];
                tried = record { few = omega arith; rising = one_rising n r.one r.below };
                is = else_next (without n lines []) _ e ∙ rw (le-leb 2 k h) (else_weak (without_ones n lines) _ (ap is_weak r.is ∙ r.parts) ∙ r.is);
                parts = r.parts;
                earlier = before;
              })
            where
              before : (t : List ℕ) → Tried n k t → Earlier t (r.one ∷ []) → Sturdy t
              before [] d f = e
              before (v ∷ []) d f = r.earlier v (before_one f)
              before (v ∷ (w ∷ t)) d f = absurd (not_longer (omega arith) f)

          second : Sturdy [] → Dec (2 ≤ k) → FirstWeak ⊎ NoneWeak
          second e (yes h) = ones e h ones_cases
          second e (no m) = inr (record { is = else_next (without n lines []) _ e ∙ rw (lt-leb 2 k (omega arith), lt-leb 3 k (omega arith)); none = all })
            where
              all : (t : List ℕ) → Tried n k t → Sturdy t
              all [] d = e
              all (v ∷ t) d = absurd (omega (arith, d.few))

          empty : (b : Bool) → is_weak (without n lines []) ≡ b → FirstWeak ⊎ NoneWeak
          empty true e =
              inl (record {
                spot = [];
                tried = record { few = omega arith; rising = none_rising n };
                is = else_weak (without n lines []) _ e;
                parts = e;
                earlier = λ t d f. absurd (before_none t f);
              })
          empty false e = second e (dec_le 2 k)
