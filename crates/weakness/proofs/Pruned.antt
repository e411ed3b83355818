-- A sound list, pruned from station 0 at a level from 1 to 3: the kept lines, of which there are few, have the list's own weak spot.
-- Assumes nothing.
use Prim.Native.Nat.{ℕ, ◌-◌, ◌*◌, ◌≤◌}
use mathlib.Core.Path.{◌≡◌, ◌∙◌}
use mathlib.Core.List.{List, ◌++◌}
use native.Mathlib.Nat.{mul-le-mul_right}
use native.Mathlib.Omega.{arith}
use lib.ListN.{length, take, replicate, length-append}
use lib.Seq.{get_or-take}
use Rattle.std.specs.Prelude.{Result}
use Rattle.kinds.specs.declared.Refusal.{Refusal}
use Rattle.laws.proofs.Lists.{replicate_at}
use Rattle.laws.proofs.Count.{count_most}
use Rattle.network.specs.Faults.{Sound}
use Rattle.kept.specs.Kept.{is_kept, kept_count, kept_of}
use Rattle.kept.specs.Answers.{CopyAllows}
use Rattle.kept.proofs.After.{front_written}
use Rattle.kept.proofs.Copying.{kept_length, copy_given, count_front, kept_front}
use Rattle.rule.proofs.Plans.{pruned_size}
use Rattle.certificate.specs.Starts.{StartsIn, pruned_lines}
use Rattle.certificate.proofs.Kept.{kept_sound}
use Rattle.certificate.proofs.Few.{kept_lines_few}
use Rattle.certificate.proofs.Pruned.{pruned_meets}
use Rattle.certificate.proofs.Demand3.{pruned_alike}
use Rattle.tries.specs.Tries.{weak_spot}
use Rattle.weakness.specs.Spots.{Searchable}
use Rattle.weakness.specs.FromZero.{from_zero, ranks_made}
use Rattle.weakness.proofs.Agree.{alike_weak_spot}

module _ {n k : ℕ} {lines : List ℕ} (searchable : Searchable n k lines) where
  sound : Sound n lines
  sound = searchable.sound

  starts_in : StartsIn n k (from_zero k)
  starts_in i l = rw (get_or-take {A = ℕ} k (replicate 3 0) i 0 l, replicate_at {A = ℕ} 3 i 0) (omega (arith, sound.within.some))

  -- the kept lines are sound, and have the whole list's weak spot
  pub pruned_sound : Sound n (pruned_lines n k lines (from_zero k))
  pruned_sound = kept_sound sound (ranks_made n k lines)

  pub pruned_weak_spot : weak_spot n k lines ≡ weak_spot n k (pruned_lines n k lines (from_zero k))
  pruned_weak_spot = alike_weak_spot sound pruned_sound (pruned_alike n k lines (from_zero k) sound starts_in) searchable.some

  -- counting the ranks that pruning makes counts the kept lines, which are at most all, and at most 3 times 1,023
  same_count : kept_of lines (ranks_made n k lines) ≡ kept_count (ranks_made n k lines)
  unfolding kept_of kept_count
  same_count = rw (pruned_size n k lines (from_zero k))

  pub kept_all : 2 * kept_count (ranks_made n k lines) ≤ length lines
  unfolding kept_count
  kept_all = omega (arith, count_most (length (ranks_made n k lines)) (is_kept (ranks_made n k lines)), pruned_size n k lines (from_zero k))

  pub kept_few : 2 * kept_count (ranks_made n k lines) ≤ 6144
  kept_few =
      omega (
        arith,
        same_count,
        kept_length lines (ranks_made n k lines),
        kept_lines_few sound (pruned_meets n k lines (from_zero k) sound starts_in),
        mul-le-mul_right (n - 1) searchable.most,
        sound.within.most,
      )

  -- what copying by ranks that begin with them leaves at the front of its room
  pub front_copied : {ranks room room' : List ℕ} {copied : Result ℕ Refusal} (rest : List ℕ) → ranks ≡ ranks_made n k lines ++ rest → 2 * kept_count (ranks_made n k lines) ≤ length room
      → CopyAllows lines ranks room copied room' → take (2 * kept_count (ranks_made n k lines)) room' ≡ pruned_lines n k lines (from_zero k)
  front_copied {ranks} {room} {room'} {copied} rest is fits copies =
      let R = ranks_made n k lines in
      let half = pruned_size n k lines (from_zero k) in
      let same = count_front lines R rest half in
      let copies' : CopyAllows lines (R ++ rest) room copied room' = rw is at copies in
      let e = copy_given lines (R ++ rest) (length room) sound.within (omega (arith, half, length-append R rest)) (omega (arith, fits, same)) in
      front_written {size = 2 * kept_count R} room (copies'.answer ∙ e) copies'.new_room (kept_length lines (R ++ rest) ∙ rw same)
      ∙ kept_front lines R rest (omega (arith, half))
