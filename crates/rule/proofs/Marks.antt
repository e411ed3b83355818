-- A scan only adds marks, and gives lines no rank but its round's.
-- Assumes nothing.
use Prim.Native.Nat.{ℕ, ◌<◌, ◌≤◌}
use mathlib.Core.Path.{◌≡◌, refl, ◌∙◌}
use mathlib.Core.Bool.{Bool, true, false}
use mathlib.Core.List.{List}
use native.Mathlib.Decide.{ℕ_discrete, dec_lt}
use native.Mathlib.Omega.{arith}
use lib.Dec.{eqb}
use lib.ListN.{length, get_or, set, length-set}
use lib.Seq.{get_or-set_same, get_or-set_other, set_out}
use Rattle.laws.specs.Fold.{pick}
use Rattle.laws.proofs.Fold.{up_to_keeps}
use Rattle.network.specs.Lines.{end_one, end_two}
use Rattle.rule.specs.Rule.{Marks, marks, take_to, take_line, scan_station}

-- From s to t marks were only added, and no rank is above the bound if none was.
pub record Grown (bound : ℕ) (s t : Marks) : Type 0 where
  pub size : length t.marked ≡ length s.marked
  pub lines : length t.ranks ≡ length s.ranks
  pub kept : (v : ℕ) → get_or s.marked v false ≡ true → get_or t.marked v false ≡ true
  pub ranked : ((p : ℕ) → get_or s.ranks p 0 ≤ bound) → (p : ℕ) → get_or t.ranks p 0 ≤ bound

pub grown_none : (bound : ℕ) (s : Marks) → Grown bound s s
grown_none bound s = record { size = refl; lines = refl; kept = λ v e. e; ranked = λ h. h }

pub grown_more : (bound : ℕ) (s t r : Marks) → Grown bound s t → Grown bound t r → Grown bound s r
grown_more bound s t r a b = record { size = b.size ∙ a.size; lines = b.lines ∙ a.lines; kept = λ v e. b.kept v (a.kept v e); ranked = λ h. b.ranked (a.ranked h) }

-- What is at w after a store at v: the stored value, or what was there.
pub stored : {A : Type 0} (P : A → Type 0) (l : List A) (v w : ℕ) (x d : A) → P x → P (get_or l w d) → P (get_or (set l v x) w d)
stored P l v w x d new old = go (ℕ_discrete w v) (dec_lt v (length l))
  where
    go : Dec (w ≡ v) → Dec (v < length l) → P (get_or (set l v x) w d)
    go (yes e) (yes h) = rw (e, get_or-set_same l v x d h) new
    go (yes e) (no h) = rw (set_out l v x (omega arith)) old
    go (no n) h = rw (get_or-set_other l v w x d n) old

take_to_grown : (round p v bound : ℕ) (s : Marks) → round ≤ bound → Grown bound s (take_to round p v s)
unfolding take_to
take_to_grown round p v bound s h = go (eqb (get_or s.ranks p 0) 0) (get_or s.marked v false)
  where
    go : (a b : Bool) → Grown bound s (pick a (pick b s (marks (set s.ranks p round) (set s.marked v true))) s)
    go true true = grown_none bound s
    go true false =
        record {
          size = length-set s.marked v true;
          lines = length-set s.ranks p round;
          kept = λ w e. stored (λ (x : Bool). x ≡ true) s.marked v w true false refl e;
          ranked = λ below q. stored (λ (x : ℕ). x ≤ bound) s.ranks p q round 0 h (below q);
        }
    go false b = grown_none bound s

pub take_line_grown : (lines : List ℕ) (round u p bound : ℕ) (s : Marks) → round ≤ bound → Grown bound s (take_line lines round u p s)
unfolding take_line
take_line_grown lines round u p bound s h = go (eqb (end_one lines p) u) (eqb (end_two lines p) u)
  where
    go : (a b : Bool) → Grown bound s (pick a (take_to round p (end_two lines p) s) (pick b (take_to round p (end_one lines p) s) s))
    go true b = take_to_grown round p (end_two lines p) bound s h
    go false true = take_to_grown round p (end_one lines p) bound s h
    go false false = grown_none bound s

pub scan_grown : (lines : List ℕ) (round u bound : ℕ) (s : Marks) → round ≤ bound → Grown bound s (scan_station lines round u s)
unfolding scan_station
scan_grown lines round u bound s h =
    up_to_keeps (Grown bound s) (take_line lines round u) s (grown_none bound s)
    (λ p t g. grown_more bound s t (take_line lines round u p t) g (take_line_grown lines round u p bound t h)) _
