-- The laws of the folds, at the code's own i + 1 and n - i.
-- Assumes nothing.
use Prim.Native.Nat.{ℕ, zero, suc, ◌+◌, ◌-◌, ◌<◌, ◌≤◌}
use mathlib.Core.Path.{◌≡◌, refl, sym, ap, ◌∙◌, subst}
use mathlib.Core.Bool.{Bool, true, false, ◌||◌, true≢false}
use mathlib.Core.Logic.{◌⊎◌, ◌⊎◌.inl, ◌⊎◌.inr}
use native.Mathlib.Nat.{sub-zero, add-zero, add-suc, suc-add, zero-add}
use native.Mathlib.Numerals.{add-one}
use native.Mathlib.Omega.{arith}
use native.Mathlib.Decide.{ℕ_discrete, dec_lt}
use borrow.Author.Tests.{le-ltb, lt-ltb}
use lib.Dec.{ltb}
use Rattle.laws.specs.Fold.{pick, up_to, first_from, any_from, lowest}

-- What is so at i, and later than i, is so from i on.
at_or_later : (P : ℕ → Type 0) (i j : ℕ) → P i → i ≤ j → (suc i ≤ j → P j) → P j
at_or_later P i j h a later = go (ℕ_discrete i j)
  where
    go : Dec (i ≡ j) → P j
    go (yes e) = subst P e h
    go (no n) = later (omega arith)

-- What is left of n at i is one more than what is left at i + 1.
rest_more : (n i : ℕ) → i < n → n - i ≡ suc (n - (i + 1))
rest_more n i h = omega arith

rest_none : (n i : ℕ) → n ≤ i → n - i ≡ 0
rest_none n i h = omega arith

-- One step more.
pub up_to_more : {S : Type 0} (f : ℕ → S → S) (s : S) (i : ℕ) → up_to f s (i + 1) ≡ f i (up_to f s i)
unfolding up_to
up_to_more f s i = rw (add-one i)

-- What holds at the start and is kept by each step holds after i steps.
pub up_to_keeps : {S : Type 0} (P : S → Type 0) (f : ℕ → S → S) (s : S) → P s → ((i : ℕ) (t : S) → P t → P (f i t)) → (i : ℕ) → P (up_to f s i)
unfolding up_to
up_to_keeps P f s h keep zero = h
up_to_keeps P f s h keep (suc i) = keep i (up_to f s i) (up_to_keeps P f s h keep i)

-- The search, at place i of n: what is left is the answer.
module _ {A : Type 0} (test : A → Bool) (f : ℕ → A) (last : A) where
  pub first_start : (n : ℕ) → first_from test f last 0 n ≡ first_from test f last 0 (n - 0)
  first_start n = ap (first_from test f last 0) (sym (sub-zero n))

  pub first_next : (n i : ℕ) → i < n → test (f i) ≡ false → first_from test f last i (n - i) ≡ first_from test f last (i + 1) (n - (i + 1))
  unfolding first_from
  first_next n i h e = rw (rest_more n i h, add-one i) (rw e)

  pub first_here : (n i : ℕ) → i < n → test (f i) ≡ true → first_from test f last i (n - i) ≡ f i
  unfolding first_from
  first_here n i h e = rw (rest_more n i h) (rw e)

  pub first_none : (n i : ℕ) → n ≤ i → first_from test f last i (n - i) ≡ last
  unfolding first_from
  first_none n i h = rw (rest_none n i h)

-- What a search over the k numbers from i found: the answer at the first place that passes.
pub record FoundAt {A : Type 0} (test : A → Bool) (f : ℕ → A) (i k : ℕ) (answer : A) : Type 0 where
  pub place : ℕ
  pub above : i ≤ place
  pub below : place < i + k
  pub is : answer ≡ f place
  pub passes : test (f place) ≡ true
  pub earlier : (j : ℕ) → i ≤ j → j < place → test (f j) ≡ false

-- A search that found nothing: the answer is the last one, and no place passes.
pub record FoundNone {A : Type 0} (test : A → Bool) (f : ℕ → A) (last : A) (i k : ℕ) (answer : A) : Type 0 where
  pub is : answer ≡ last
  pub none : (j : ℕ) → i ≤ j → j < i + k → test (f j) ≡ false

module _ {A : Type 0} (test : A → Bool) (f : ℕ → A) (last : A) where
  -- from i on, by what is so at i and what was found from suc i on
  cases_at : (i k : ℕ) (b : Bool) (answer : A) → test (f i) ≡ b
      → FoundAt test f (suc i) k answer ⊎ FoundNone test f last (suc i) k answer
      → FoundAt test f i (suc k) (pick b (f i) answer) ⊎ FoundNone test f last i (suc k) (pick b (f i) answer)
  cases_at i k true answer e r =
      inl (record { place = i; above = omega arith; below = omega arith; is = refl; passes = e; earlier = λ j a b. absurd (omega arith) })
  cases_at i k false answer e (inl r) =
      inl (record {
        place = r.place;
        above = omega (arith, r.above);
        below = omega (arith, r.below);
        is = r.is;
        passes = r.passes;
        earlier = λ j a b. at_or_later (λ (x : ℕ). test (f x) ≡ false) i j e a (λ l. r.earlier j l b);
      })
  cases_at i k false answer e (inr r) =
      inr (record { is = r.is; none = λ j a b. at_or_later (λ (x : ℕ). test (f x) ≡ false) i j e a (λ l. r.none j l (omega arith)) })

  pub first_cases : (i k : ℕ) → FoundAt test f i k (first_from test f last i k) ⊎ FoundNone test f last i k (first_from test f last i k)
  unfolding first_from
  first_cases i zero = inr (record { is = refl; none = λ j a b. absurd (omega arith) })
  first_cases i (suc k) = cases_at i k (test (f i)) (first_from test f last (suc i) k) refl (first_cases (suc i) k)

  -- where no place passes, the answer is the last one
  pub first_last : (k : ℕ) → ((j : ℕ) → j < k → test (f j) ≡ false) → first_from test f last 0 k ≡ last
  first_last k h = go (first_cases 0 k)
    where
      go : FoundAt test f 0 k (first_from test f last 0 k) ⊎ FoundNone test f last 0 k (first_from test f last 0 k) → first_from test f last 0 k ≡ last
      go (inl r) = absurd (true≢false (sym r.passes ∙ h r.place (omega (arith, r.below))))
      go (inr r) = r.is

  -- where the answer does not pass, no place does
  pub first_all : (k : ℕ) → test (first_from test f last 0 k) ≡ false → (j : ℕ) → j < k → test (f j) ≡ false
  first_all k e j h = go (first_cases 0 k)
    where
      go : FoundAt test f 0 k (first_from test f last 0 k) ⊎ FoundNone test f last 0 k (first_from test f last 0 k) → test (f j) ≡ false
      go (inl r) = absurd (true≢false (sym r.passes ∙ (ap test (sym r.is) ∙ e)))
      go (inr r) = r.none j (omega arith) (omega arith)

  -- the first place that passes is the answer
  pub first_at : (k p : ℕ) → p < k → test (f p) ≡ true → ((j : ℕ) → j < p → test (f j) ≡ false) → first_from test f last 0 k ≡ f p
  first_at k p h e before = go (first_cases 0 k)
    where
      same : (r : FoundAt test f 0 k (first_from test f last 0 k)) → Dec (r.place < p) → Dec (p < r.place) → first_from test f last 0 k ≡ f p
      same r (yes l) d = absurd (true≢false (sym r.passes ∙ before r.place l))
      same r (no n) (yes l) = absurd (true≢false (sym e ∙ r.earlier p (omega arith) l))
      same r (no n) (no m) = let is : r.place ≡ p = omega arith in r.is ∙ rw is

      go : FoundAt test f 0 k (first_from test f last 0 k) ⊎ FoundNone test f last 0 k (first_from test f last 0 k) → first_from test f last 0 k ≡ f p
      go (inl r) = same r (dec_lt r.place p) (dec_lt p r.place)
      go (inr r) = absurd (true≢false (sym e ∙ r.none p (omega arith) (omega arith)))

-- The lowest number that passes is at most the bound, which is given where none passes.
pub lowest_most : (test : ℕ → Bool) (n : ℕ) → lowest test n n ≤ n
lowest_most test n = go (first_cases test (λ i. i) n 0 n)
  where
    go : FoundAt test (λ i. i) 0 n (lowest test n n) ⊎ FoundNone test (λ i. i) n 0 n (lowest test n n) → lowest test n n ≤ n
    go (inl r) = omega (arith, r.is, r.below)
    go (inr r) = omega (arith, r.is)

-- Some number below k passes: it is there to be had.
pub any_some : (test : ℕ → Bool) (k : ℕ) → any_from test 0 k ≡ true → (j : ℕ) × (j < k) × (test j ≡ true)
any_some test k e = go (first_cases (λ b. b) test false 0 k)
  where
    go : FoundAt (λ b. b) test 0 k (any_from test 0 k) ⊎ FoundNone (λ b. b) test false 0 k (any_from test 0 k) → (j : ℕ) × (j < k) × (test j ≡ true)
    go (inl r) = (r.place, omega (arith, r.below), r.passes)
    go (inr r) = absurd (true≢false (sym e ∙ r.is))

-- One number below k that passes is enough.
pub some_any : (test : ℕ → Bool) (k j : ℕ) → j < k → test j ≡ true → any_from test 0 k ≡ true
some_any test k j h e = go (any_from test 0 k) refl
  where
    go : (b : Bool) → any_from test 0 k ≡ b → any_from test 0 k ≡ true
    go true f = f
    go false f = absurd (true≢false (sym e ∙ first_all (λ b. b) test false k f j h))

-- One number more at the end.
any_snoc : (test : ℕ → Bool) (k i : ℕ) → any_from test i (suc k) ≡ (any_from test i k || test (i + k))
unfolding first_from
any_snoc test zero i = rw (add-zero i) (go (test i))
  where
    go : (b : Bool) → pick b b false ≡ b
    go true = refl
    go false = refl
any_snoc test (suc k) i = rw (add-suc i k, ← (suc-add i k)) (go (test i) _ (any_from test (suc i) k) (test (suc i + k)) (any_snoc test k (suc i)))
  where
    go : (b x y z : Bool) → x ≡ (y || z) → pick b b x ≡ (pick b b y || z)
    go true x y z e = refl
    go false x y z e = e

-- Whether some number below k + 1 passes, from those below k.
pub any_more : (test : ℕ → Bool) (k : ℕ) → any_from test 0 (k + 1) ≡ (any_from test 0 k || test k)
any_more test k = rw (add-one k) (rw zero-add at (any_snoc test k 0))

-- Two searches whose tests agree on the same answers find the same.
first_agree : {A : Type 0} (test test' : A → Bool) (f f' : ℕ → A) (last : A) (k i : ℕ)
    → ((j : ℕ) → i ≤ j → j < i + k → (test (f j) ≡ test' (f' j)) × (f j ≡ f' j)) → first_from test f last i k ≡ first_from test' f' last i k
unfolding first_from
first_agree test test' f f' last zero i h = refl
first_agree test test' f f' last (suc k) i h =
    let (e, g) = h i (omega arith) (omega arith) in
    rw (e, g, first_agree test test' f f' last k (suc i) (λ j a b. h j (omega arith) (omega arith)))

-- A search whose answers' tests are told by a mark at each number: the answer at the first number marked, which is n or more where none is.
pub first_marked : {A : Type 0} (test : A → Bool) (f : ℕ → A) (last : A) (mark : ℕ → Bool) (n k i : ℕ) → i + k ≤ n
    → ((j : ℕ) → i ≤ j → j < i + k → mark j ≡ test (f j))
    → first_from test f last i k ≡ pick (ltb (first_from mark (λ j. j) n i k) n) (f (first_from mark (λ j. j) n i k)) last
unfolding first_from
first_marked test f last mark n zero i h says = rw (le-ltb n n (omega arith))
first_marked {A} test f last mark n (suc k) i h says = go (mark i) refl (first_marked test f last mark n k (suc i) (omega arith) (λ j a b. says j (omega arith) (omega arith)))
  where
    found : ℕ
    found = first_from mark (λ j. j) n (suc i) k

    go : (b : Bool) → mark i ≡ b → first_from test f last (suc i) k ≡ pick (ltb found n) (f found) last
        → pick (test (f i)) (f i) (first_from test f last (suc i) k) ≡ pick (ltb (pick b i found) n) (f (pick b i found)) last
    go true e ih = rw (← (says i (omega arith) (omega arith)), e, lt-ltb i n (omega arith))
    go false e ih = rw (← (says i (omega arith) (omega arith)), e) ih

-- Two searches that try the same find the same.
pub first_same : {A : Type 0} (test : A → Bool) (f f' : ℕ → A) (last : A) (k i : ℕ)
    → ((j : ℕ) → i ≤ j → j < i + k → f j ≡ f' j) → first_from test f last i k ≡ first_from test f' last i k
first_same test f f' last k i h = first_agree test test f f' last k i (λ j a b. (ap test (h j a b), h j a b))

-- The lowest number of two tests that agree below n.
pub lowest_same : (test test' : ℕ → Bool) (n last : ℕ) → ((j : ℕ) → j < n → test j ≡ test' j) → lowest test n last ≡ lowest test' n last
lowest_same test test' n last h = first_agree test test' (λ i. i) (λ i. i) last n 0 (λ j a b. (h j (omega arith), refl))

-- A search of many numbers, of which the first n are asked for.
module _ (test : ℕ → Bool) (many n : ℕ) (few : n ≤ many) where
  -- an answer below n passes, and is the lowest of the n
  pub lowest_low : lowest test many many < n → (test (lowest test many many) ≡ true) × ((last : ℕ) → lowest test n last ≡ lowest test many many)
  lowest_low h = go (first_cases test (λ i. i) many 0 many)
    where
      go : FoundAt test (λ i. i) 0 many (lowest test many many) ⊎ FoundNone test (λ i. i) many 0 many (lowest test many many)
          → (test (lowest test many many) ≡ true) × ((last : ℕ) → lowest test n last ≡ lowest test many many)
      go (inl r) =
          (rw r.is r.passes, λ last. first_at test (λ i. i) last n r.place (omega (arith, r.is)) r.passes (λ j l. r.earlier j (omega arith) l) ∙ sym r.is)
      go (inr r) = absurd (omega (arith, r.is))

  -- an answer from n on: none of the n passes
  pub lowest_high : n ≤ lowest test many many → (v : ℕ) → v < n → test v ≡ false
  lowest_high h v l = go (first_cases test (λ i. i) many 0 many)
    where
      go : FoundAt test (λ i. i) 0 many (lowest test many many) ⊎ FoundNone test (λ i. i) many 0 many (lowest test many many) → test v ≡ false
      go (inl r) = r.earlier v (omega arith) (omega (arith, r.is))
      go (inr r) = r.none v (omega arith) (omega arith)

-- Where the search finds no number below n, none passes.
pub lowest_none : (test : ℕ → Bool) (n : ℕ) → n ≤ lowest test n n → (v : ℕ) → v < n → test v ≡ false
lowest_none test n h = lowest_high test n n (omega arith) h

-- The search for the lowest number, with one number more that passes, or that does not.
pub lowest_new : (test : ℕ → Bool) (k last : ℕ) → ((j : ℕ) → j < k → test j ≡ false) → test k ≡ true → lowest test (k + 1) last ≡ k
lowest_new test k last none here = first_at test (λ j. j) last (k + 1) k (omega arith) here none

pub lowest_more : (test : ℕ → Bool) (k last : ℕ) → test k ≡ false → lowest test (k + 1) last ≡ lowest test k last
lowest_more test k last not_here = go (first_cases test (λ j. j) last 0 k)
  where
    go : FoundAt test (λ j. j) 0 k (lowest test k last) ⊎ FoundNone test (λ j. j) last 0 k (lowest test k last) → lowest test (k + 1) last ≡ lowest test k last
    go (inl f) = first_at test (λ j. j) last (k + 1) f.place (omega (arith, f.below)) f.passes (λ j h. f.earlier j (omega arith) h) ∙ sym f.is
    go (inr f) = first_last test (λ j. j) last (k + 1) (λ j h. none j h (dec_lt j k)) ∙ sym f.is
      where
        none : (j : ℕ) → j < k + 1 → Dec (j < k) → test j ≡ false
        none j h (yes l) = f.none j (omega arith) (omega arith)
        none j h (no l) = let e : j ≡ k = omega arith in rw e not_here
