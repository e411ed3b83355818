-- The laws of pieces: what a line makes of their names.
-- Assumes nothing.
use Prim.Native.Nat.{ℕ, zero, suc, ◌/◌, ◌<◌, ◌≤◌, max, min}
use mathlib.Core.Path.{◌≡◌, refl, sym, ap, ◌∙◌}
use mathlib.Core.Bool.{Bool, true, false, ◌||◌}
use mathlib.Core.List.{List}
use native.Mathlib.Nat.{max-eq_left, max-eq_right, min-eq_left, min-eq_right}
use native.Mathlib.Decide.{ℕ_discrete, dec_lt, dec_le}
use native.Mathlib.Omega.{arith}
use borrow.Author.Tests.{eq-eqb, ne_eqb}
use lib.Dec.{eqb}
use lib.ListN.{length, get_or, set, length-map}
use Rattle.laws.specs.Fold.{pick, up_to}
use Rattle.network.specs.Lines.{network, end_one, end_two, Proper}
use Rattle.pieces.specs.Away.{is_away, Gone, is_gone}
use Rattle.pieces.specs.Pieces.{alone, merge, join_line, pieces_of, one_piece}
use Rattle.pieces.specs.Tables.{Leads}
use Rattle.pieces.proofs.Tables.{alone_length, set_leads, name_low, name_own, join_leads, join_leads_back}
use Rattle.laws.proofs.Lists.{map_at}

-- ── two names become one ──

module _ (x y : ℕ) (names : List ℕ) where
  merge_at : (v : ℕ) → v < length names → get_or (merge x y names) v 0 ≡ pick (eqb (get_or names v 0) (max x y)) (min x y) (get_or names v 0)
  unfolding merge
  merge_at v h = map_at (λ z. pick (eqb z (max x y)) (min x y) z) names v h

  pub merge_length : length (merge x y names) ≡ length names
  unfolding merge
  merge_length = length-map names (λ z. pick (eqb z (max x y)) (min x y) z)

  -- What is named alike stays so.
  pub merge_keeps : (u v : ℕ) → u < length names → v < length names → get_or names u 0 ≡ get_or names v 0 → get_or (merge x y names) u 0 ≡ get_or (merge x y names) v 0
  merge_keeps u v h k e = merge_at u h ∙ (ap (λ z. pick (eqb z (max x y)) (min x y) z) e ∙ sym (merge_at v k))

  -- The two names become one.
  pub merge_one : (u v : ℕ) → u < length names → v < length names → get_or names u 0 ≡ x → get_or names v 0 ≡ y → get_or (merge x y names) u 0 ≡ get_or (merge x y names) v 0
  merge_one u v h k e f = (merge_at u h ∙ rw e) ∙ (go (dec_le x y) ∙ sym (merge_at v k ∙ rw f))
    where
      alike : (z w : ℕ) → pick (eqb z w) z z ≡ z
      alike z w = both (eqb z w)
        where
          both : (b : Bool) → pick b z z ≡ z
          both true = refl
          both false = refl

      go : Dec (x ≤ y) → pick (eqb x (max x y)) (min x y) x ≡ pick (eqb y (max x y)) (min x y) y
      go (yes l) = rw (max-eq_right {n = x} {m = y} l, min-eq_left {n = x} {m = y} l, eq-eqb y y refl) (alike x y)
      go (no m) = rw (max-eq_left {n = x} {m = y} (omega arith), min-eq_right {n = y} {m = x} (omega arith), eq-eqb x x refl) (sym (alike y x))

  -- A name stays, or is one of the two and becomes the other.
  pub data Merged (old new : ℕ) : Type 0 where
    stays : new ≡ old → Merged old new
    forth : old ≡ x → new ≡ y → Merged old new
    back : old ≡ y → new ≡ x → Merged old new

  pub merge_cases : (v : ℕ) → v < length names → Merged (get_or names v 0) (get_or (merge x y names) v 0)
  merge_cases v h = rw (merge_at v h) (go (ℕ_discrete (get_or names v 0) (max x y)) (dec_le x y))
    where
      go : Dec (get_or names v 0 ≡ max x y) → Dec (x ≤ y) → Merged (get_or names v 0) (pick (eqb (get_or names v 0) (max x y)) (min x y) (get_or names v 0))
      go (no m) d = stays (rw (ne_eqb (get_or names v 0) (max x y) m))
      go (yes e) (yes l) = back (e ∙ max-eq_right {n = x} {m = y} l) (rw (eq-eqb (get_or names v 0) (max x y) e) (min-eq_left {n = x} {m = y} l))
      go (yes e) (no m) =
          forth (e ∙ max-eq_left {n = x} {m = y} (omega arith)) (rw (eq-eqb (get_or names v 0) (max x y) e) (min-eq_right {n = y} {m = x} (omega arith)))

-- ── the names after some lines ──

module _ (n : ℕ) (lines : List ℕ) (away : ℕ → Bool) where
  -- The names after the first p lines.
  pub names_after : ℕ → List ℕ
  names_after p = up_to (join_line lines away) (alone n) p

  pub names_none : names_after 0 ≡ alone n
  unfolding names_after up_to
  names_none = refl

  pub names_all_lines : pieces_of n lines away ≡ names_after (length lines / 2)
  unfolding names_after pieces_of
  names_all_lines = refl

  -- A line with an end that is taken away changes nothing; any other makes the names of its ends one.
  pub names_away : (p : ℕ) → (away (end_one lines p) || away (end_two lines p)) ≡ true → names_after (suc p) ≡ names_after p
  unfolding names_after up_to join_line
  names_away p e = rw e

  pub names_join : (p : ℕ) → (away (end_one lines p) || away (end_two lines p)) ≡ false
      → names_after (suc p) ≡ merge (get_or (names_after p) (end_one lines p) 0) (get_or (names_after p) (end_two lines p) 0) (names_after p)
  unfolding names_after up_to join_line
  names_join p e = rw e

  -- Some table leads to the names, and there are n of them.
  pub record Led (p : ℕ) : Type 0 where
    pub size : length (names_after p) ≡ n
    pub table : List ℕ
    pub leads : Leads (names_after p) table

  pub led : Proper (network n lines) → (p : ℕ) → p ≤ length lines / 2 → Led p
  led proper zero h = record { size = rw names_none (alone_length n); table = alone n; leads = rw names_none (set_leads n (alone n) refl) }
  led proper (suc p) h = go (away (end_one lines p) || away (end_two lines p)) refl (led proper p (omega arith))
    where
      go : (b : Bool) → (away (end_one lines p) || away (end_two lines p)) ≡ b → Led p → Led (suc p)
      go true e r = record { size = rw (names_away p e) r.size; table = r.table; leads = rw (names_away p e) r.leads }
      go false e r = lower (dec_lt x y)
        where
          one_in : end_one lines p < length r.table
          one_in = omega (arith, proper.one_in p h, r.size, r.leads.size)

          two_in : end_two lines p < length r.table
          two_in = omega (arith, proper.two_in p h, r.size, r.leads.size)

          x : ℕ
          x = get_or (names_after p) (end_one lines p) 0

          y : ℕ
          y = get_or (names_after p) (end_two lines p) 0

          x_own : get_or (names_after p) x 0 ≡ x
          x_own = name_own (names_after p) r.table r.leads (end_one lines p) one_in

          y_own : get_or (names_after p) y 0 ≡ y
          y_own = name_own (names_after p) r.table r.leads (end_two lines p) two_in

          x_in : x < length r.table
          x_in = omega (arith, name_low (names_after p) r.table r.leads (end_one lines p) one_in, one_in)

          y_in : y < length r.table
          y_in = omega (arith, name_low (names_after p) r.table r.leads (end_two lines p) two_in, two_in)

          lower : Dec (x < y) → Led (suc p)
          lower (yes l) =
              record {
                size = rw (names_join p e) (merge_length x y (names_after p) ∙ r.size);
                table = set r.table y x;
                leads = rw (names_join p e) (join_leads (names_after p) r.table r.leads x y l y_in x_own y_own);
              }
          lower (no m) =
              record {
                size = rw (names_join p e) (merge_length x y (names_after p) ∙ r.size);
                table = set r.table x y;
                leads = rw (names_join p e) (join_leads_back (names_after p) r.table r.leads x y (omega arith) x_in x_own y_own);
              }

-- ── by marks ──

-- Stations that are taken away alike leave the same pieces.
module _ (n : ℕ) (lines : List ℕ) (proper : Proper (network n lines)) (away away' : ℕ → Bool) (alike : (v : ℕ) → v < n → away v ≡ away' v) where
  same_after : (p : ℕ) → p ≤ length lines / 2 → up_to (join_line lines away) (alone n) p ≡ up_to (join_line lines away') (alone n) p
  unfolding up_to join_line
  same_after zero h = refl
  same_after (suc p) h =
      rw (alike (end_one lines p) (proper.one_in p h), alike (end_two lines p) (proper.two_in p h), same_after p (omega arith))

  pub pieces_alike : pieces_of n lines away ≡ pieces_of n lines away'
  unfolding pieces_of
  pieces_alike = same_after (length lines / 2) (omega arith)

-- The table of pieces, found by marks, says whether two stations are of one piece.
pub same_piece : (n : ℕ) (lines away : List ℕ) (gone : List Bool) → Proper (network n lines) → length gone ≡ n → Gone away gone → (pieces : List ℕ)
    → pieces ≡ pieces_of n lines (is_gone gone) → (a b : ℕ) → eqb (get_or pieces a 0) (get_or pieces b 0) ≡ one_piece n lines (is_away away) a b
unfolding one_piece
same_piece n lines away gone proper size g pieces e a b =
    rw (e, pieces_alike n lines proper (is_gone gone) (is_away away) (λ v h. g.says v (omega arith)))
