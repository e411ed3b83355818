-- Lists filled from the front, one store a turn or one lent part a turn.
-- Assumes nothing.
use Prim.Native.Nat.{ℕ, zero, suc, ◌+◌, ◌*◌, ◌-◌, ◌<◌, ◌≤◌}
use mathlib.Core.Path.{◌≡◌, refl, sym, ◌∙◌}
use mathlib.Core.List.{List, [], ◌∷◌, ◌++◌, map, append_assoc}
use native.Mathlib.Nat.{suc-mul, mul-le-mul_right, add-sub_cancel_left}
use native.Mathlib.Decide.{ℕ_discrete, dec_lt}
use native.Mathlib.Omega.{arith}
use native.Mathlib.Numerals.{add-one}
use lib.ListN.{length, get_or, set, take, drop, replicate, length-replicate, get_or-replicate, get_or-eq_default}
use lib.Seq.{get_or-set_same, get_or-set_other, drop-cons, set_at, take_at, drop_at, drop-drop}

-- A list of one value, read with that value past its end.
pub replicate_at : {A : Type 0} (n i : ℕ) (v : A) → get_or (replicate n v) i v ≡ v
replicate_at n i v = go (dec_lt i n)
  where
    go : Dec (i < n) → get_or (replicate n v) i v ≡ v
    go (yes h) = get_or-replicate n i v v h
    go (no h) = get_or-eq_default (replicate n v) v {n = i} (simp length-replicate (omega arith))

-- `front` fills the first j places of d: a store of v at j makes it one longer.
pub store_next : {A : Type 0} (front d : List A) (j : ℕ) (v : A) → length front ≡ j → j < length d
    → set (front ++ drop j d) j v ≡ (front ++ (v ∷ [])) ++ drop (j + 1) d
store_next front d j v e h =
    rw (add-one j, drop-cons d j v h, set_at front (get_or d j v) (drop (suc j) d) v j e) (sym (append_assoc front (v ∷ []) (drop (suc j) d)))

-- `front` fills the first `at` places of d, and the part from `at` to at + n was lent and holds `part`.
pub part_back : {A : Type 0} (front d part : List A) (at n : ℕ) → length front ≡ at
    → take at (front ++ drop at d) ++ (part ++ drop (at + n - at) (drop at (front ++ drop at d))) ≡ (front ++ part) ++ drop (at + n) d
part_back front d part at n e =
    rw (take_at front (drop at d) at e, drop_at front (drop at d) at e, add-sub_cancel_left at n, drop-drop n at d) (sym (append_assoc front part (drop (at + n) d)))

-- Parts of n places: the next one's start, and that it is within k of them.
pub part_next : (i n : ℕ) → (i + 1) * n ≡ i * n + n
part_next i n = rw (add-one i) (suc-mul i n)

pub part_fits : (i k n : ℕ) → i < k → i * n + n ≤ k * n
part_fits i k n h = omega (arith, suc-mul i n, mul-le-mul_right n h)

-- An entry of a list of which each entry is changed.
pub map_at : (f : ℕ → ℕ) (l : List ℕ) (v : ℕ) → v < length l → get_or (map f l) v 0 ≡ f (get_or l v 0)
map_at f [] v h = absurd (omega arith)
map_at f (x ∷ l) zero h = refl
map_at f (x ∷ l) (suc v) h = map_at f l v (omega arith)

-- A table whose first j entries are right, with the entry at j written.
pub write_next : {A : Type 0} (f : ℕ → A) (table : List A) (j : ℕ) (d : A) → j < length table → ((i : ℕ) → i < j → get_or table i d ≡ f i)
    → (i : ℕ) → i < j + 1 → get_or (set table j (f j)) i d ≡ f i
write_next f table j d room right i h = go (ℕ_discrete i j)
  where
    go : Dec (i ≡ j) → get_or (set table j (f j)) i d ≡ f i
    go (yes e) = rw e (get_or-set_same table j (f j) d room)
    go (no m) = get_or-set_other table j i (f j) d m ∙ right i (omega arith)
