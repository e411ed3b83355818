-- A plan that meets the definition keeps at most one line for each round and each station but the round's first:
-- each line of a round leads to a later station, and no two lead to the same. Assumes nothing.
use Prim.Native.Nat.{ℕ, zero, suc, ◌+◌, ◌-◌, ◌*◌, ◌/◌, ◌≤◌, ◌<◌}
use mathlib.Core.Path.{◌≡◌, refl}
use mathlib.Core.Bool.{Bool, true, false, ◌&&◌, and-false}
use mathlib.Core.Logic.{◌≢◌}
use mathlib.Core.List.{List}
use native.Mathlib.Nat.{suc-mul}
use native.Mathlib.Decide.{ℕ_discrete, dec_lt, dec_le}
use native.Mathlib.Numerals.{add-one}
use native.Mathlib.Omega.{arith}
use borrow.Author.Tests.{eqb-true, eq-eqb, le-leb, lt-leb}
use lib.Dec.{eqb, leb}
use lib.ListN.{length, get_or}
use Rattle.laws.specs.Count.{total, bit, count}
use Rattle.laws.proofs.Count.{total_le, total_add, bit_most, count_none}
use Rattle.network.specs.Lines.{Network, network, Joins, Joins.forth, Joins.back, Simple}
use Rattle.network.specs.Faults.{Sound}
use Rattle.network.proofs.Chains.{joins_in, joins_back}
use Rattle.plans.specs.Published.{Greedy}
use Rattle.plans.specs.Plans.{InPlay, OfRank, PlanMeets}
use Rattle.kept.specs.Kept.{is_kept, kept_lines, kept_of}
use Rattle.kept.proofs.Copying.{copy_size}
use Rattle.laws.proofs.Injections.{count_below}
use Rattle.certificate.proofs.Rounds.{arrow_once}

-- ── one round ──

-- Line p, of rank i, leads from an earlier station to the one at position q + 1.
record LeadsTo (g : Network) (ranks : List ℕ) (i : ℕ) (t : ℕ → ℕ) (p q : ℕ) : Type 0 where
  from : ℕ
  to : ℕ
  rank : get_or ranks p 0 ≡ i
  ends : Joins g p from to
  rises : t from < t to
  position : t to ≡ suc q

module _ (g : Network) (simple : Simple g) (ranks : List ℕ) (i : ℕ) (t : ℕ → ℕ) (G : Greedy g (InPlay ranks i) (OfRank ranks i) t) where
  leads_to : (p : ℕ) → p < g.lines → eqb (get_or ranks p 0) i ≡ true → (q : ℕ) × (q < g.stations - 1) × LeadsTo g ranks i t p q
  leads_to p l e = go (dec_lt (t (g.one p)) (t (g.two p)))
    where
      k : get_or ranks p 0 ≡ i
      k = eqb-true (get_or ranks p 0) i e

      up : (u v : ℕ) → Joins g p u v → t u < t v → (q : ℕ) × (q < g.stations - 1) × LeadsTo g ranks i t p q
      up u v j h = (
        t v - 1,
        omega (arith, G.numbering.number v (joins_in simple.proper l (joins_back j))),
        record { from = u; to = v; rank = k; ends = j; rises = h; position = omega arith },
      )

      go : Dec (t (g.one p) < t (g.two p)) → (q : ℕ) × (q < g.stations - 1) × LeadsTo g ranks i t p q
      go (yes h) = up (g.one p) (g.two p) (forth refl refl) h
      go (no h) =
          let differ : t (g.one p) ≢ t (g.two p) =
          (λ o. simple.proper.apart p l (G.numbering.one_to_one (g.one p) (g.two p) (simple.proper.one_in p l) (simple.proper.two_in p l) o)) in
          up (g.two p) (g.one p) (back refl refl) (omega arith)

  leads_once : (p p' q : ℕ) → p < g.lines → p' < g.lines → LeadsTo g ranks i t p q → LeadsTo g ranks i t p' q → p ≡ p'
  leads_once p p' q l l' a a' =
      let same : a'.to ≡ a.to =
      G.numbering.one_to_one a'.to a.to (joins_in simple.proper l' (joins_back a'.ends)) (joins_in simple.proper l (joins_back a.ends)) (omega arith) in
      arrow_once G simple l l' a.rank a'.rank a.ends (rw same at a'.ends) a.rises (rw same at a'.rises)

  round_few : count g.lines (λ p. eqb (get_or ranks p 0) i) ≤ g.stations - 1
  round_few = count_below g.lines (g.stations - 1) (λ p. eqb (get_or ranks p 0) i) (LeadsTo g ranks i t) leads_to leads_once

-- ── all rounds ──

-- Line p is kept in one of the first j rounds.
abbrev kept_by : List ℕ → ℕ → ℕ → Bool
kept_by ranks j p = is_kept ranks p && leb (get_or ranks p 0) j

module _ (ranks : List ℕ) (p : ℕ) where
  none_by : kept_by ranks 0 p ≡ false
  none_by = go (ℕ_discrete (get_or ranks p 0) 0)
    where
      go : Dec (get_or ranks p 0 ≡ 0) → kept_by ranks 0 p ≡ false
      go (yes e) = rw (eq-eqb (get_or ranks p 0) 0 e)
      go (no n) = rw (lt-leb (get_or ranks p 0) 0 (omega arith)) (and-false (is_kept ranks p))

  -- in the first j rounds, or in the one after them
  one_by : (j : ℕ) → bit (kept_by ranks (suc j) p) ≤ bit (kept_by ranks j p) + bit (eqb (get_or ranks p 0) (suc j))
  one_by j = go (ℕ_discrete (get_or ranks p 0) (suc j)) (dec_le (get_or ranks p 0) j)
    where
      go : Dec (get_or ranks p 0 ≡ suc j) → Dec (get_or ranks p 0 ≤ j) → bit (kept_by ranks (suc j) p) ≤ bit (kept_by ranks j p) + bit (eqb (get_or ranks p 0) (suc j))
      go (yes e) d = rw (eq-eqb (get_or ranks p 0) (suc j) e) (omega (arith, bit_most (kept_by ranks (suc j) p)))
      go (no n) (yes l) = rw (le-leb (get_or ranks p 0) (suc j) (omega arith), le-leb (get_or ranks p 0) j l) (omega arith)
      go (no n) (no m) = rw (lt-leb (get_or ranks p 0) (suc j) (omega arith), and-false (is_kept ranks p)) (omega arith)

  -- all are kept in the first k rounds, where no rank is above k
  all_by : (k : ℕ) → get_or ranks p 0 ≤ k → bit (is_kept ranks p) ≤ bit (kept_by ranks k p)
  all_by k l = rw (le-leb (get_or ranks p 0) k l) (go (is_kept ranks p))
    where
      go : (x : Bool) → bit x ≤ bit (x && true)
      go true = omega arith
      go false = omega arith

module _ {n k : ℕ} {lines ranks orders : List ℕ} (sound : Sound n lines) (meets : PlanMeets n k lines ranks orders) where
  rounds_few : (j : ℕ) → j ≤ k → count (length lines / 2) (kept_by ranks j) ≤ j * (n - 1)
  rounds_few zero l = omega (arith, count_none (length lines / 2) (kept_by ranks 0) (λ p _. none_by ranks p))
  rounds_few (suc j) l =
      let m = length lines / 2 in
      let split : count m (kept_by ranks (suc j)) ≤ total m (λ p. bit (kept_by ranks j p) + bit (eqb (get_or ranks p 0) (suc j))) = total_le m _ _ (λ p _. one_by ranks p j) in
      let sum = total_add m (λ p. bit (kept_by ranks j p)) (λ p. bit (eqb (get_or ranks p 0) (suc j))) in
      let round = round_few (network n lines) sound.simple ranks (suc j) _ (rw (add-one j) at (meets.rounds j l).greedy) in
      omega (arith, rounds_few j (omega arith), suc-mul j (n - 1))

  -- THEOREM. Lines kept under a plan that meets the definition are at most k times (n - 1).
  pub kept_few : kept_of lines ranks ≤ k * (n - 1)
  unfolding kept_of
  kept_few =
      let m = length lines / 2 in
      let all : count m (is_kept ranks) ≤ count m (kept_by ranks k) = total_le m _ _ (λ p l. all_by ranks p k (meets.ranks_most p l)) in
      omega (arith, rounds_few k (omega arith))

  -- THEOREM. The list of kept lines has at most so many lines.
  pub kept_lines_few : length (kept_lines lines ranks) / 2 ≤ k * (n - 1)
  unfolding kept_lines kept_of
  kept_lines_few = omega (arith, kept_few, copy_size lines ranks (length lines / 2))
