-- The laws of tables: what they lead to, and how they are shortened and joined.
-- Assumes nothing.
use Prim.Native.Nat.{ℕ, zero, suc, ◌+◌, ◌<◌, ◌≤◌}
use mathlib.Core.Path.{◌≡◌, refl, sym, ap, ◌∙◌}
use mathlib.Core.List.{List, [], ◌∷◌, ◌++◌, map}
use mathlib.Core.Logic.{◌≢◌}
use native.Mathlib.Nat.{max-eq_left, max-eq_right, min-eq_left, min-eq_right}
use native.Mathlib.Decide.{ℕ_discrete}
use native.Mathlib.Omega.{arith}
use native.Mathlib.Numerals.{add-one}
use borrow.Author.Tests.{eq-eqb, ne_eqb}
use lib.Dec.{eqb}
use lib.ListN.{length, get_or, set, length-set, length-map, length-append, get_or-append}
use lib.Seq.{get_or-set_same, get_or-set_other, get_or-append_seam, ext_get_or}
use Rattle.laws.specs.Fold.{pick, up_to}
use Rattle.pieces.specs.Pieces.{alone, merge}
use Rattle.pieces.specs.Tables.{Leads}
use Rattle.laws.proofs.Lists.{map_at}

-- Each station alone: n of them, and at each its own number.
pub alone_length : (n : ℕ) → length (alone n) ≡ n
unfolding alone up_to
alone_length zero = refl
alone_length (suc n) = length-append (alone n) (n ∷ []) ∙ omega (arith, alone_length n)

pub alone_at : (n v : ℕ) → v < n → get_or (alone n) v 0 ≡ v
unfolding alone up_to
alone_at zero v h = absurd (omega arith)
alone_at (suc n) v h = go (ℕ_discrete v n) (λ l. alone_at n v l)
  where
    go : Dec (v ≡ n) → (v < n → get_or (alone n) v 0 ≡ v) → get_or (alone n ++ (n ∷ [])) v 0 ≡ v
    go (yes e) ih =
        let seam : get_or (alone n ++ (n ∷ [])) n 0 ≡ n = rw (alone_length n) at (get_or-append_seam (alone n) n [] 0) in
        rw e seam
    go (no m) ih = get_or-append (alone n) (n ∷ []) 0 v (omega (arith, alone_length n)) ∙ ih (omega arith)

pub alone_more : (n : ℕ) → alone (n + 1) ≡ alone n ++ (n ∷ [])
unfolding alone up_to
alone_more n = rw (add-one n)

-- A piece that is merged with itself stays as it is.
pub merge_same : (x : ℕ) (names : List ℕ) → merge x x names ≡ names
unfolding merge
merge_same x names = rw (max-eq_left {n = x} {m = x} (omega arith), min-eq_left {n = x} {m = x} (omega arith)) (go names)
  where
    stays : (z : ℕ) → Dec (z ≡ x) → pick (eqb z x) x z ≡ z
    stays z (yes e) = rw (eq-eqb z x e, e)
    stays z (no m) = rw (ne_eqb z x m)

    go : (names : List ℕ) → map (λ z. pick (eqb z x) x z) names ≡ names
    go [] = refl
    go (z ∷ names) = rw (stays z (ℕ_discrete z x), go names)

-- ── what a table leads to ──

alone_leads : (n : ℕ) → Leads (alone n) (alone n)
alone_leads n =
    record {
      size = refl;
      down = λ v h. omega (arith, own v h);
      same = λ v h. ap (λ (x : ℕ). get_or (alone n) x 0) (own v h);
      last = λ v h e. e;
    }
  where
    own : (v : ℕ) → v < length (alone n) → get_or (alone n) v 0 ≡ v
    own v h = alone_at n v (omega (arith, alone_length n))

pub set_leads : (n : ℕ) (table : List ℕ) → table ≡ alone n → Leads (alone n) table
set_leads n table e = rw e (alone_leads n)

module _ (names table : List ℕ) (t : Leads names table) where
  -- The name of a piece is at most each station of it, and has itself for a name.
  record Low (v : ℕ) : Type 0 where
    most : get_or names v 0 ≤ v
    own : get_or names (get_or names v 0) 0 ≡ get_or names v 0

  low : (fuel v : ℕ) → v < fuel → v < length table → Low v
  low zero v h l = absurd (omega arith)
  low (suc fuel) v h l = go (ℕ_discrete (get_or table v 0) v) (λ m. low fuel (get_or table v 0) (omega (arith, t.down v l)) (omega (arith, t.down v l)))
    where
      go : Dec (get_or table v 0 ≡ v) → (get_or table v 0 ≢ v → Low (get_or table v 0)) → Low v
      go (yes e) ih = let x = t.last v l e in record { most = omega (arith, x); own = ap (λ (y : ℕ). get_or names y 0) x }
      go (no m) ih =
          let r = ih m in
          record { most = omega (arith, r.most, t.same v l, t.down v l); own = rw (t.same v l) at r.own }

  pub name_low : (v : ℕ) → v < length table → get_or names v 0 ≤ v
  name_low v h = (low (suc v) v (omega arith) h).most

  pub name_own : (v : ℕ) → v < length table → get_or names (get_or names v 0) 0 ≡ get_or names v 0
  name_own v h = (low (suc v) v (omega arith) h).own

  -- What is the name of a station's piece is a station, and names itself.
  pub named_in : (v : ℕ) {root : ℕ} → v < length table → root ≡ get_or names v 0 → root < length table
  named_in v h e = omega (arith, name_low v h)

  pub named : (v : ℕ) {root : ℕ} → v < length table → root ≡ get_or names v 0 → get_or names root 0 ≡ root
  named v h e = rw e (name_own v h)

  -- Two entries on, the piece is the same, and the station lower unless the first entry led nowhere.
  pub skip_same : (v : ℕ) → v < length table → get_or names (get_or table (get_or table v 0) 0) 0 ≡ get_or names v 0
  skip_same v h = t.same (get_or table v 0) (omega (arith, t.down v h)) ∙ t.same v h

  pub skip_less : (v : ℕ) → v < length table → get_or table v 0 ≢ v → get_or table (get_or table v 0) 0 < v
  skip_less v h m = omega (arith, t.down v h, t.down (get_or table v 0) (omega (arith, t.down v h)))

  -- A station's entry may skip one station on the way down.
  pub shorten_leads : (v : ℕ) → v < length table → Leads names (set table v (get_or table (get_or table v 0) 0))
  shorten_leads v h =
      record {
        size = length-set table v next ∙ t.size;
        down = λ w l. down w (rw (length-set table v next) at l) (ℕ_discrete w v);
        same = λ w l. same w (rw (length-set table v next) at l) (ℕ_discrete w v);
        last = λ w l. last w (rw (length-set table v next) at l) (ℕ_discrete w v);
      }
    where
      next : ℕ
      next = get_or table (get_or table v 0) 0

      one_down : get_or table v 0 ≤ v
      one_down = t.down v h

      two_down : next ≤ get_or table v 0
      two_down = t.down (get_or table v 0) (omega (arith, one_down))

      down : (w : ℕ) → w < length table → Dec (w ≡ v) → get_or (set table v next) w 0 ≤ w
      down w l (yes e) = rw (e, get_or-set_same table v next 0 h) (omega (arith, one_down, two_down))
      down w l (no m) = rw (get_or-set_other table v w next 0 m) (t.down w l)

      same : (w : ℕ) → w < length table → Dec (w ≡ v) → get_or names (get_or (set table v next) w 0) 0 ≡ get_or names w 0
      same w l (yes e) = rw (e, get_or-set_same table v next 0 h) (skip_same v h)
      same w l (no m) = rw (get_or-set_other table v w next 0 m) (t.same w l)

      last : (w : ℕ) → w < length table → Dec (w ≡ v) → get_or (set table v next) w 0 ≡ w → get_or names w 0 ≡ w
      last w l (yes e) f =
          let g : next ≡ v = rw (e, get_or-set_same table v next 0 h) at f in
          rw e (t.last v h (omega (arith, one_down, two_down)))
      last w l (no m) f = t.last w l (rw (get_or-set_other table v w next 0 m) at f)

  -- The entries below v are names: once v's skips a station, it is a name too.
  pub names_next : (v : ℕ) → v < length table → ((w : ℕ) → w < v → get_or table w 0 ≡ get_or names w 0)
      → (w : ℕ) → w < v + 1 → get_or (set table v (get_or table (get_or table v 0) 0)) w 0 ≡ get_or names w 0
  names_next v h before w l = at (ℕ_discrete w v)
    where
      here : Dec (get_or table v 0 ≡ v) → get_or table (get_or table v 0) 0 ≡ get_or names v 0
      here (yes e) = (ap (λ (x : ℕ). get_or table x 0) e ∙ e) ∙ sym (t.last v h e)
      here (no m) = before (get_or table v 0) (omega (arith, t.down v h)) ∙ t.same v h

      at : Dec (w ≡ v) → get_or (set table v (get_or table (get_or table v 0) 0)) w 0 ≡ get_or names w 0
      at (yes e) = rw (e, get_or-set_same table v (get_or table (get_or table v 0) 0) 0 h) (here (ℕ_discrete (get_or table v 0) v))
      at (no m) = get_or-set_other table v w (get_or table (get_or table v 0) 0) 0 m ∙ before w (omega arith)

  pub names_all : ((w : ℕ) → w < length table → get_or table w 0 ≡ get_or names w 0) → table ≡ names
  names_all h = ext_get_or 0 table names t.size h

  -- The higher of two names becomes the lower: its entry leads there.
  module _ (a b : ℕ) (order : a ≤ b) (inside : b < length table) (own_a : get_or names a 0 ≡ a) (own_b : get_or names b 0 ≡ b) where
    fall : ℕ → ℕ
    fall z = pick (eqb z b) a z

    fall_at : (v : ℕ) → v < length table → get_or (map fall names) v 0 ≡ fall (get_or names v 0)
    fall_at v h = map_at fall names v (omega (arith, t.size))

    fall_a : fall a ≡ a
    unfolding fall
    fall_a = go (ℕ_discrete a b)
      where
        go : Dec (a ≡ b) → pick (eqb a b) a a ≡ a
        go (yes e) = rw (eq-eqb a b e)
        go (no m) = rw (ne_eqb a b m)

    fall_b : fall b ≡ a
    unfolding fall
    fall_b = rw (eq-eqb b b refl)

    fall_other : (z : ℕ) → z ≢ b → fall z ≡ z
    unfolding fall
    fall_other z m = rw (ne_eqb z b m)

    fall_leads : Leads (map fall names) (set table b a)
    fall_leads =
        record {
          size = length-set table b a ∙ (t.size ∙ sym (length-map names fall));
          down = λ w l. down w (rw (length-set table b a) at l) (ℕ_discrete w b);
          same = λ w l. same w (rw (length-set table b a) at l) (ℕ_discrete w b);
          last = λ w l. last w (rw (length-set table b a) at l) (ℕ_discrete w b);
        }
      where
        at_a : get_or (map fall names) a 0 ≡ a
        at_a = fall_at a (omega arith) ∙ (ap fall own_a ∙ fall_a)

        at_b : get_or (map fall names) b 0 ≡ a
        at_b = fall_at b inside ∙ (ap fall own_b ∙ fall_b)

        down : (w : ℕ) → w < length table → Dec (w ≡ b) → get_or (set table b a) w 0 ≤ w
        down w l (yes e) = rw (e, get_or-set_same table b a 0 inside) order
        down w l (no m) = rw (get_or-set_other table b w a 0 m) (t.down w l)

        same : (w : ℕ) → w < length table → Dec (w ≡ b) → get_or (map fall names) (get_or (set table b a) w 0) 0 ≡ get_or (map fall names) w 0
        same w l (yes e) = rw (e, get_or-set_same table b a 0 inside) (at_a ∙ sym at_b)
        same w l (no m) =
            rw (get_or-set_other table b w a 0 m)
            (fall_at (get_or table w 0) (omega (arith, t.down w l)) ∙ (ap fall (t.same w l) ∙ sym (fall_at w l)))

        last : (w : ℕ) → w < length table → Dec (w ≡ b) → get_or (set table b a) w 0 ≡ w → get_or (map fall names) w 0 ≡ w
        last w l (yes e) f =
            let g : a ≡ b = rw (e, get_or-set_same table b a 0 inside) at f in
            rw e (at_b ∙ g)
        last w l (no m) f =
            let own : get_or names w 0 ≡ w = t.last w l (rw (get_or-set_other table b w a 0 m) at f) in
            fall_at w l ∙ (ap fall own ∙ fall_other w m)

  -- Two stations whose entries are the same are of one piece.
  pub same_entry : (v w : ℕ) → v < length table → w < length table → get_or table v 0 ≡ get_or table w 0 → get_or names v 0 ≡ get_or names w 0
  same_entry v w h k e = sym (t.same v h) ∙ (ap (λ (x : ℕ). get_or names x 0) e ∙ t.same w k)

  -- Two pieces become one: the higher name's entry becomes the lower name.
  pub join_leads : (x y : ℕ) → x < y → y < length table → get_or names x 0 ≡ x → get_or names y 0 ≡ y → Leads (merge x y names) (set table y x)
  unfolding merge fall
  join_leads x y l h ex ey = rw (max-eq_right {n = x} {m = y} (omega arith), min-eq_left {n = x} {m = y} (omega arith)) (fall_leads x y (omega arith) h ex ey)

  pub join_leads_back : (x y : ℕ) → y ≤ x → x < length table → get_or names x 0 ≡ x → get_or names y 0 ≡ y → Leads (merge x y names) (set table x y)
  unfolding merge fall
  join_leads_back x y l h ex ey = rw (max-eq_left {n = x} {m = y} (omega arith), min-eq_right {n = y} {m = x} (omega arith)) (fall_leads y x l h ey ex)
