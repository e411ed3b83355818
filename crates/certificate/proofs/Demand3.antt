-- Demand 3, sentence by sentence, each beside its theorems; the word itself, alike at k, is defined in specs/Alike. The last sentence is said here of
-- sound lists, and in Calls of the calls that a program makes. Assumes nothing.
use Prim.Native.Nat.{ℕ, ◌-◌, ◌*◌, ◌/◌, ◌≤◌}
use mathlib.Core.Path.{◌≡◌}
use mathlib.Core.List.{List}
use native.Mathlib.Omega.{arith}
use lib.ListN.{length}
use Rattle.kinds.specs.Answers.{Answer.given}
use Rattle.network.specs.Faults.{Sound}
use Rattle.network.proofs.Chains.{hop_map}
use Rattle.plans.specs.Verdicts.{Verdict.accepted}
use Rattle.plans.specs.Checking.{check_answer}
use Rattle.plans.proofs.Answers.{check_accepts}
use Rattle.kept.specs.Kept.{kept_lines}
use Rattle.rule.specs.Rounds.{pruned}
use Rattle.unite.specs.Union.{united}
use Rattle.unite.proofs.Neighbours.{united_sound, united_fewer}
use Rattle.certificate.specs.Alike.{Alike}
use Rattle.certificate.specs.Starts.{StartsIn, pruned_lines, kept_union}
use Rattle.certificate.proofs.Kept.{kept_hop, kept_sound, kept_alike}
use Rattle.certificate.proofs.Few.{kept_lines_few}
use Rattle.certificate.proofs.AlikeLaws.{alike_then, alike_united}
use Rattle.certificate.proofs.Pruned.{pruned_meets}

-- ── "Lines kept under any rounds the checker accepts are alike at k to the whole list, at most k times (n − 1) of them." ──

module _ (n k : ℕ) (lines ranks orders : List ℕ) where
  pub checked_alike : check_answer n k lines ranks orders ≡ given accepted → Alike n k lines (kept_lines lines ranks)
  checked_alike e = let (g, meets) = (check_accepts n k lines ranks orders).0 e in kept_alike g.sound meets

  pub checked_few : check_answer n k lines ranks orders ≡ given accepted → length (kept_lines lines ranks) / 2 ≤ k * (n - 1)
  checked_few e = let (g, meets) = (check_accepts n k lines ranks orders).0 e in kept_lines_few g.sound meets

-- ── The last sentence, of what pruning keeps of sound lists. ──

-- What is kept of two sound lists, under any ranks, has a sound union, if the two have a union within the line limit.
pub kept_united_sound : {n : ℕ} {a b : List ℕ} → Sound n a → Sound n b → length (united a b) ≤ 16384
    → (ranks ranks' : List ℕ) → Sound n (united (kept_lines a ranks) (kept_lines b ranks'))
kept_united_sound {n} {a} {b} sa sb few ranks ranks' =
    let sa' = kept_sound sa ranks in
    let sb' = kept_sound sb ranks' in
    let shorter = united_fewer sa sb sa' sb' (λ u v h. hop_map (λ p _ _. tt) ((kept_hop sa ranks u v).0 h)) (λ u v h. hop_map (λ p _ _. tt) ((kept_hop sb ranks' u v).0 h)) in
    united_sound sa' sb' (omega arith)

module _ (n k : ℕ) where
  -- what pruning keeps is alike at k to the whole list
  pub pruned_alike : (lines starts : List ℕ) → Sound n lines → StartsIn n k starts → Alike n k lines (pruned_lines n k lines starts)
  pruned_alike lines starts sound starts_in = kept_alike sound (pruned_meets n k lines starts sound starts_in)

  -- what is kept of two lists, united and pruned
  pub pruned_united_alike : (a b s t r : List ℕ) → Sound n a → Sound n b → length (united a b) ≤ 16384 → StartsIn n k s → StartsIn n k t → StartsIn n k r
      → Alike n k (united a b) (pruned_lines n k (kept_union n k a b s t) r)
  pruned_united_alike a b s t r sa sb few s_in t_in r_in =
      let sa' = kept_sound sa (pruned n k a s).ranks in
      let sb' = kept_sound sb (pruned n k b t).ranks in
      let su = kept_united_sound sa sb few (pruned n k a s).ranks (pruned n k b t).ranks in
      alike_then (alike_united sa sb sa' sb' (pruned_alike a s sa s_in) (pruned_alike b t sb t_in)) (pruned_alike (kept_union n k a b s t) r su r_in)
