-- Document 01's seven stations, and ranks of which both rounds are spanning forests: the list is sound, and the lines of each round
-- are a maximal forest in the lines then in play. Assumes nothing.
use Prim.Native.Nat.{ℕ, zero, suc, ◌≤◌, ◌<◌}
use mathlib.Core.Path.{◌≡◌, refl, sym, ◌∙◌}
use mathlib.Core.Bool.{Bool, true, false, not, ◌&&◌, ◌||◌, true≢false}
use mathlib.Core.Logic.{◌≢◌, ◌⊎◌.inl, ◌⊎◌.inr}
use mathlib.Core.List.{List, [], ◌∷◌}
use native.Mathlib.Decide.{ℕ_discrete}
use native.Mathlib.Omega.{arith}
use borrow.Author.Tests.{leb-false, eq-eqb, ne_eqb}
use lib.Dec.{leb, eqb}
use lib.ListN.{length, get_or}
use Rattle.laws.specs.Fold.{first_from, any_from}
use Rattle.laws.proofs.Fold.{first_all}
use Rattle.network.specs.Lines.{end_one, end_two, network, Joins, Joins.forth, Joins.back}
use Rattle.network.specs.Chains.{Hop, Hop.by, Chain, Chain.here, Chain.step, Every}
use Rattle.network.specs.Faults.{Sound}
use Rattle.limits.specs.Limits.{stations_judged, length_judged}
use Rattle.network.specs.Judging.{same_ends, ends_judged, line_judged, lines_judged, list_judged}
use Rattle.network.proofs.Chains.{hop_back, chain_start, chain_join, chain_back}
use Rattle.network.proofs.Sound.{taken_sound}
use Rattle.plans.specs.Published.{MaximalForest}
use Rattle.plans.specs.Plans.{InPlay, OfRank}
use Rattle.laws.proofs.Truth.{neither}
use Rattle.certificate.specs.Seven.{seven, seven_ranks}

-- ── a cut that no hop crosses parts its sides ──

abbrev pub differ : Bool → Bool → Bool
differ true y = not y
differ false y = y

pub differ_same : (x y : Bool) → differ x y ≡ false → x ≡ y
differ_same true true e = refl
differ_same true false e = absurd (true≢false e)
differ_same false true e = absurd (true≢false e)
differ_same false false e = refl

pub one_side : {hop : ℕ → ℕ → Type 0} {stays : ℕ → Type 0} (side : ℕ → Bool) → ((u v : ℕ) → stays u → stays v → hop u v → side u ≡ side v)
    → {u v : ℕ} → Chain hop stays u v → side u ≡ side v
one_side side f (here s) = refl
one_side side f (step s h c) = f _ _ s (chain_start c) h ∙ one_side side f c

-- ── the seven stations ──

pub seven_sound : Sound 7 seven
unfolding list_judged stations_judged length_judged lines_judged line_judged ends_judged same_ends first_from
seven_sound = taken_sound 0 7 seven refl

-- ── no line of a round has its ends joined by the others ──

-- The stations on one side of each kept line, when it is taken out of its round's forest.
abbrev beyond : ℕ → List ℕ
beyond p = get_or ((1 ∷ 3 ∷ 5 ∷ []) ∷ (2 ∷ 4 ∷ 6 ∷ []) ∷ [] ∷ (1 ∷ []) ∷ (1 ∷ 3 ∷ []) ∷ (2 ∷ 4 ∷ []) ∷ (2 ∷ []) ∷ (3 ∷ 5 ∷ []) ∷ (3 ∷ []) ∷ (4 ∷ 6 ∷ []) ∷ (4 ∷ []) ∷ []) p []

is_beyond : ℕ → ℕ → Bool
is_beyond p v = any_from (λ j. eqb (get_or (beyond p) j 0) v) 0 (length (beyond p))

-- Line q crosses from one side of line p to the other.
abbrev crosses : ℕ → ℕ → Bool
crosses p q = differ (is_beyond p (end_one seven q)) (is_beyond p (end_two seven q))

-- Of the lines of its round, just line p itself does.
abbrev wrong : ℕ → ℕ → Bool
wrong p q = not (eqb (get_or seven_ranks p 0) 0) && (eqb (get_or seven_ranks q 0) (get_or seven_ranks p 0) && differ (crosses p q) (eqb p q))

none_wrong : any_from (λ p. any_from (wrong p) 0 11) 0 11 ≡ false
unfolding first_from is_beyond
none_wrong = refl

crosses_itself : (p q : ℕ) → p < 11 → q < 11 → get_or seven_ranks p 0 ≢ 0 → get_or seven_ranks q 0 ≡ get_or seven_ranks p 0 → crosses p q ≡ eqb p q
crosses_itself p q lp lq n e =
    let right : wrong p q ≡ false = first_all (λ b. b) (wrong p) false 11 (first_all (λ b. b) (λ p. any_from (wrong p) 0 11) false 11 none_wrong p lp) q lq in
    differ_same (crosses p q) (eqb p q) (rw (ne_eqb (get_or seven_ranks p 0) 0 n, eq-eqb (get_or seven_ranks q 0) (get_or seven_ranks p 0) e) at right)

same_differ : (x y : Bool) → x ≡ y → differ x y ≡ false
same_differ true y e = rw (← e)
same_differ false y e = sym e

forest : (i p : ℕ) → 1 ≤ i → p < 11 → get_or seven_ranks p 0 ≡ i → ¬ Chain (Hop (network 7 seven) (λ q. OfRank seven_ranks i q × (q ≢ p))) Every (end_one seven p) (end_two seven p)
forest i p li l e c =
    let kept : get_or seven_ranks p 0 ≢ 0 = (λ z. omega arith) in
    let crossed : crosses p p ≡ true = crosses_itself p p l l kept refl ∙ eq-eqb p p refl in
    true≢false (sym crossed ∙ same_differ (is_beyond p (end_one seven p)) (is_beyond p (end_two seven p)) (one_side (is_beyond p) hop c))
  where
    hop : (u v : ℕ) → Unit {0} → Unit {0} → Hop (network 7 seven) (λ q. OfRank seven_ranks i q × (q ≢ p)) u v → is_beyond p u ≡ is_beyond p v
    hop u v _ _ (by q lq (f, n) j) = go j
      where
        apart : is_beyond p (end_one seven q) ≡ is_beyond p (end_two seven q)
        apart =
            differ_same (is_beyond p (end_one seven q)) (is_beyond p (end_two seven q))
            (crosses_itself p q l lq (λ (z : get_or seven_ranks p 0 ≡ 0). omega arith) (f ∙ sym e) ∙ ne_eqb p q (λ (z : p ≡ q). n (sym z)))

        go : Joins (network 7 seven) q u v → is_beyond p u ≡ is_beyond p v
        go (forth x y) = rw (x, y) at apart
        go (back x y) = sym (rw (x, y) at apart)

-- ── every line in play has its ends joined in the round's forest, by way of station 0 ──

-- A chain of lines of rank i leads from v to 0.
abbrev ToZero : ℕ → ℕ → Type 0
ToZero i v = Chain (Hop (network 7 seven) (OfRank seven_ranks i)) Every v 0

-- The line at place p of rank i leads on to w.
to_zero : {i v w : ℕ} (p : ℕ) → p < 11 → get_or seven_ranks p 0 ≡ i → Joins (network 7 seven) p v w → ToZero i w → ToZero i v
to_zero p l e j c = step tt (by p l e j) c

by_zero : {i u v : ℕ} → ToZero i u → ToZero i v → Chain (Hop (network 7 seven) (OfRank seven_ranks i)) Every u v
by_zero c d = chain_join c (chain_back (λ u v h. hop_back h) d)

each_station : (P : ℕ → Type 0) → P 0 → P 1 → P 2 → P 3 → P 4 → P 5 → P 6 → (v : ℕ) → v < 7 → P v
each_station P a b c d e f g zero l = a
each_station P a b c d e f g (suc zero) l = b
each_station P a b c d e f g (suc (suc zero)) l = c
each_station P a b c d e f g (suc (suc (suc zero))) l = d
each_station P a b c d e f g (suc (suc (suc (suc zero)))) l = e
each_station P a b c d e f g (suc (suc (suc (suc (suc zero))))) l = f
each_station P a b c d e f g (suc (suc (suc (suc (suc (suc zero)))))) l = g
each_station P a b c d e f g (suc (suc (suc (suc (suc (suc (suc v))))))) l = absurd (omega arith)

first_to_zero : (v : ℕ) → v < 7 → ToZero 1 v
first_to_zero =
    let one : ToZero 1 1 = to_zero 0 (omega arith) refl (back refl refl) (here tt) in
    let two : ToZero 1 2 = to_zero 1 (omega arith) refl (back refl refl) (here tt) in
    let five : ToZero 1 5 = to_zero 7 (omega arith) refl (back refl refl) one in
    let six : ToZero 1 6 = to_zero 9 (omega arith) refl (back refl refl) two in
    let three : ToZero 1 3 = to_zero 8 (omega arith) refl (forth refl refl) five in
    let four : ToZero 1 4 = to_zero 10 (omega arith) refl (forth refl refl) six in
    each_station (ToZero 1) (here tt) one two three four five six

second_to_zero : (v : ℕ) → v < 7 → v < 5 → ToZero 2 v
second_to_zero =
    let three : ToZero 2 3 = to_zero 4 (omega arith) refl (back refl refl) (here tt) in
    let four : ToZero 2 4 = to_zero 5 (omega arith) refl (back refl refl) (here tt) in
    let one : ToZero 2 1 = to_zero 3 (omega arith) refl (forth refl refl) three in
    let two : ToZero 2 2 = to_zero 6 (omega arith) refl (forth refl refl) four in
    each_station (λ v. v < 5 → ToZero 2 v) (λ l. here tt) (λ l. one) (λ l. two) (λ l. three) (λ l. four) (λ l. absurd (omega arith)) (λ l. absurd (omega arith))

-- The lines in play in round 2 are among the stations below 5.
none_high : any_from (λ p. not (eqb (get_or seven_ranks p 0) 1) && (leb 5 (end_one seven p) || leb 5 (end_two seven p))) 0 11 ≡ false
unfolding first_from
none_high = refl

second_low : (p : ℕ) → p < 11 → get_or seven_ranks p 0 ≢ 1 → (end_one seven p < 5) × (end_two seven p < 5)
second_low p l n =
    let low = first_all (λ b. b) (λ p. not (eqb (get_or seven_ranks p 0) 1) && (leb 5 (end_one seven p) || leb 5 (end_two seven p))) false 11 none_high p l in
    let (x, y) = neither (leb 5 (end_one seven p)) (leb 5 (end_two seven p)) (rw (ne_eqb (get_or seven_ranks p 0) 1 n) at low) in
    (leb-false 5 (end_one seven p) x, leb-false 5 (end_two seven p) y)

-- THEOREM. In both rounds the lines of the round are a maximal forest in the lines then in play.
pub seven_forests : (i : ℕ) → 1 ≤ i → i ≤ 2 → MaximalForest (network 7 seven) (InPlay seven_ranks i) (OfRank seven_ranks i)
seven_forests i l m =
    record {
      within = λ p lp (e : get_or seven_ranks p 0 ≡ i). inr (omega arith);
      forest = λ p lp e. forest i p l lp e;
      maximal = λ p lp e. joined p lp e (ℕ_discrete i 1);
    }
  where
    joined : (p : ℕ) → p < 11 → InPlay seven_ranks i p → Dec (i ≡ 1) → Chain (Hop (network 7 seven) (OfRank seven_ranks i)) Every (end_one seven p) (end_two seven p)
    joined p lp e (yes h) =
        rw h (by_zero (first_to_zero (end_one seven p) (seven_sound.simple.proper.one_in p lp)) (first_to_zero (end_two seven p) (seven_sound.simple.proper.two_in p lp)))
    joined p lp e (no o) =
        let h : i ≡ 2 = omega arith in
        let other : get_or seven_ranks p 0 ≢ 1 = (λ z. elim e [ inl x ↦ omega arith | inr x ↦ omega arith ]) in
        let (x, y) = second_low p lp other in
        rw h (by_zero (second_to_zero (end_one seven p) (omega arith) x) (second_to_zero (end_two seven p) (omega arith) y))
