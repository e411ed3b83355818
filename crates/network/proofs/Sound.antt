-- The judge takes just the sound lists.
-- Assumes nothing.
use Prim.Native.Nat.{ℕ, ◌/◌, ◌%◌, ◌<◌}
use mathlib.Core.Path.{◌≡◌, refl, sym, ap, ◌∙◌}
use mathlib.Core.Bool.{true, false, true≢false}
use mathlib.Core.List.{List}
use mathlib.Core.Logic.{◌↔◌, ◌⊎◌, ◌⊎◌.inl, ◌⊎◌.inr}
use native.Mathlib.Decide.{dec_lt}
use native.Mathlib.Omega.{arith}
use borrow.Author.Tests.{le-ltb, lt-leb, ne_eqb}
use lib.ListN.{length}
use Rattle.laws.proofs.Truth.{not_so}
use Rattle.laws.proofs.Fold.{first_all, first_last, any_some, some_any}
use Rattle.kinds.specs.Answers.{taken, refuse_if, ◌and_then◌, is_refused}
use Rattle.kinds.proofs.Answers.{then_both, passed}
use Rattle.network.specs.Lines.{end_one, end_two, network, Joins, Joins.forth, Joins.back, Simple, Within}
use Rattle.limits.specs.Limits.{stations_judged, length_judged}
use Rattle.network.specs.Judging.{same_ends, stood_before, ends_judged, line_judged, lines_judged, list_judged}
use Rattle.network.specs.Faults.{Sound, EndsGood, LineGood}
use Rattle.network.proofs.Ends.{same_ends_lem, ends_same}
use Rattle.network.proofs.Judging.{ends_good, within_good}

-- ── one line ──

module _ (n : ℕ) (lines : List ℕ) where
  -- line q has the ends a and b, as the test says it and as the type says it
  pub joins_same : (q a b : ℕ) → same_ends a b (end_one lines q) (end_two lines q) ≡ true → Joins (network n lines) q a b
  joins_same q a b e = go (same_ends_lem a b (end_one lines q) (end_two lines q) e)
    where
      go : ((a ≡ end_one lines q) × (b ≡ end_two lines q)) ⊎ ((a ≡ end_two lines q) × (b ≡ end_one lines q)) → Joins (network n lines) q a b
      go (inl (x, y)) = forth (sym x) (sym y)
      go (inr (x, y)) = back (sym y) (sym x)

  pub same_joins : (q a b : ℕ) → Joins (network n lines) q a b → same_ends a b (end_one lines q) (end_two lines q) ≡ true
  same_joins q a b (forth x y) = ends_same a b (end_one lines q) (end_two lines q) (inl (sym x, sym y))
  same_joins q a b (back x y) = ends_same a b (end_one lines q) (end_two lines q) (inr (sym y, sym x))

  -- the test of the lines before place p tells exactly that one of them has the ends
  pub stood_exactly : (p a b : ℕ) → (stood_before lines p a b ≡ true) ↔ ((q : ℕ) × (q < p) × Joins (network n lines) q a b)
  stood_exactly p a b = (
    λ e. let (q, l, same) = any_some (λ q. same_ends a b (end_one lines q) (end_two lines q)) p e in (q, l, joins_same q a b same),
    λ (q, l, j). some_any (λ q. same_ends a b (end_one lines q) (end_two lines q)) p q l (same_joins q a b j),
  )

  pub not_stood : (p a b : ℕ) → stood_before lines p a b ≡ false → (q : ℕ) → q < p → ¬ Joins (network n lines) q a b
  not_stood p a b e q l j = true≢false (sym ((stood_exactly p a b).1 (q, l, j)) ∙ e)

  stood_not : (p a b : ℕ) → ((q : ℕ) → q < p → ¬ Joins (network n lines) q a b) → stood_before lines p a b ≡ false
  stood_not p a b h = not_so (stood_before lines p a b) (λ e. let (q, l, j) = (stood_exactly p a b).0 e in h q l j)

  module _ (list p : ℕ) where
    line_good : is_refused (line_judged list n lines p) ≡ false → LineGood n lines p
    unfolding line_judged
    line_good e =
        let (x, y) = then_both (ends_judged list n (end_one lines p) (end_two lines p) p) (refuse_if (stood_before lines p (end_one lines p) (end_two lines p)) 8 p list) e in
        record {
          ends = ends_good list n (end_one lines p) (end_two lines p) p x;
          new = not_stood p (end_one lines p) (end_two lines p) (passed (stood_before lines p (end_one lines p) (end_two lines p)) 8 p list y);
        }

    good_ends_lem : (a b : ℕ) → EndsGood n a b → ends_judged list n a b p ≡ taken
    unfolding ends_judged
    good_ends_lem a b g = simp (lt-leb n a g.one_in, lt-leb n b g.two_in, ne_eqb a b g.apart)

    good_line : LineGood n lines p → line_judged list n lines p ≡ taken
    unfolding line_judged
    good_line g =
        rw (good_ends_lem (end_one lines p) (end_two lines p) g.ends, stood_not p (end_one lines p) (end_two lines p) g.new)

-- ── the whole list ──

module _ (list n : ℕ) (lines : List ℕ) where
  pub within_taken : Within n lines → (stations_judged n ≡ taken) × (length_judged list lines ≡ taken)
  unfolding stations_judged length_judged
  within_taken w = (
    simp (le-ltb n 1 w.some, le-ltb 1024 n w.most),
    simp (ne_eqb (length lines % 2) 1 (λ (e : length lines % 2 ≡ 1). omega (arith, w.even)), le-ltb 16384 (length lines) w.few),
  )

  pub lines_only : Within n lines → list_judged list n lines ≡ lines_judged list n lines
  unfolding list_judged
  lines_only w = rw ((within_taken w).0, (within_taken w).1)

  -- THEOREM. A sound list is taken.
  pub sound_taken : Sound n lines → list_judged list n lines ≡ taken
  unfolding lines_judged
  sound_taken s =
      lines_only s.within
      ∙ first_last is_refused (line_judged list n lines) taken (length lines / 2) (λ p h. rw (good_line n lines list p (good p h)))
    where
      good : (p : ℕ) → p < length lines / 2 → LineGood n lines p
      good p h =
          record {
            ends = record { one_in = s.simple.proper.one_in p h; two_in = s.simple.proper.two_in p h; apart = s.simple.proper.apart p h };
            new = λ q l j. let e : p ≡ q = s.simple.once p q (end_one lines p) (end_two lines p) h (omega arith) (forth refl refl) j in omega arith;
          }

  -- each line before m is good, so no two of them have the same ends
  all_simple : ((p : ℕ) → p < length lines / 2 → LineGood n lines p) → Simple (network n lines)
  all_simple good =
      record {
        proper = record { one_in = λ p h. (good p h).ends.one_in; two_in = λ p h. (good p h).ends.two_in; apart = λ p h. (good p h).ends.apart };
        once = λ p q u v h k i j. go p q u v h k i j (dec_lt p q) (dec_lt q p);
      }
    where
      -- with the ends of line p for u and v
      turned : (p q u v : ℕ) → Joins (network n lines) p u v → Joins (network n lines) q u v → Joins (network n lines) q (end_one lines p) (end_two lines p)
      turned p q u v (forth x y) (forth z w) = forth (z ∙ sym x) (w ∙ sym y)
      turned p q u v (forth x y) (back z w) = back (z ∙ sym y) (w ∙ sym x)
      turned p q u v (back x y) (forth z w) = back (z ∙ sym y) (w ∙ sym x)
      turned p q u v (back x y) (back z w) = forth (z ∙ sym x) (w ∙ sym y)

      go : (p q u v : ℕ) → p < length lines / 2 → q < length lines / 2 → Joins (network n lines) p u v → Joins (network n lines) q u v → Dec (p < q) → Dec (q < p) → p ≡ q
      go p q u v h k i j (yes l) d = absurd ((good q k).new p l (turned q p u v j i))
      go p q u v h k i j (no m) (yes l) = absurd ((good p h).new q l (turned p q u v i j))
      go p q u v h k i j (no m) (no o) = omega arith

  -- the parts of the judge, also where they are tried among others
  pub parts_sound : is_refused (stations_judged n) ≡ false → is_refused (length_judged list lines) ≡ false → is_refused (lines_judged list n lines) ≡ false → Sound n lines
  unfolding lines_judged
  parts_sound s l e =
      record {
        within = within_good list n lines s l;
        simple = all_simple (λ p h. line_good n lines list p (first_all is_refused (line_judged list n lines) taken (length lines / 2) e p h));
      }

  -- THEOREM. What is taken is sound.
  pub taken_sound : list_judged list n lines ≡ taken → Sound n lines
  unfolding list_judged
  taken_sound e =
      let (s, e₁) = then_both (stations_judged n) (length_judged list lines and_then lines_judged list n lines) (ap is_refused e) in
      let (l, e₂) = then_both (length_judged list lines) (lines_judged list n lines) e₁ in
      parts_sound s l e₂
