-- What a caller gets: demand 2's "ours among them", and demand 3, of the answers of pruning, checking, copying and uniting and of what they leave in
-- the buffers lent to them. Assumes nothing.
use Prim.Native.Nat.{ℕ, ◌-◌, ◌*◌, ◌/◌, ◌≤◌}
use mathlib.Core.Path.{◌≡◌, refl, sym, ap, ap₂, ◌∙◌}
use mathlib.Core.List.{List, ◌++◌}
use native.Mathlib.Omega.{arith}
use lib.ListN.{length, drop, length-append}
use Rattle.kinds.specs.Answers.{Answer.given, answer_of}
use Rattle.network.specs.Lines.{Within}
use Rattle.network.specs.Faults.{Sound}
use Rattle.limits.specs.Limits.{plan_short}
use Rattle.request.specs.Requests.{Request}
use Rattle.limits.proofs.Room.{enough_room}
use Rattle.plans.specs.Verdicts.{Verdict.accepted}
use Rattle.plans.specs.Checking.{check_answer}
use Rattle.plans.proofs.Answers.{check_accepts}
use Rattle.plans.proofs.Front.{meets_front}
use Rattle.kept.specs.Kept.{kept_count, kept_lines, kept_of, after}
use Rattle.kept.specs.Answers.{CopyAllows}
use Rattle.kept.proofs.After.{front_written}
use Rattle.kept.proofs.Copying.{kept_length, count_front, kept_front, copy_given}
use Rattle.rule.specs.Rounds.{pruned}
use Rattle.prune.specs.Answers.{PruneAllows}
use Rattle.rule.proofs.Plans.{pruned_size, pruned_filled}
use Rattle.prune.proofs.Answers.{given_request, request_given}
use Rattle.unite.specs.Union.{united}
use Rattle.unite.proofs.Judging.{unites_given}
use Rattle.certificate.specs.Alike.{Alike}
use Rattle.certificate.specs.Starts.{StartsIn, pruned_lines, kept_union}
use Rattle.certificate.specs.Calls.{first_lines, PruneAndCopy, UnionCalls}
use Rattle.certificate.proofs.Kept.{kept_sound}
use Rattle.certificate.proofs.Pruned.{pruned_meets}
use Rattle.certificate.proofs.Demand3.{checked_alike, checked_few, kept_united_sound, pruned_united_alike}
use Rattle.std.specs.Prelude.{Result, Ok}
use Rattle.kinds.proofs.Determined.{answer_determined}
use Rattle.kinds.specs.declared.Refusal.{Refusal}

-- Copying that has room is not refused, and writes the kept lines.
copied_lines : {n : ℕ} {lines ranks room room' : List ℕ} {copied : Result ℕ Refusal} → Within n lines → length lines / 2 ≤ length ranks → 2 * kept_of lines ranks ≤ length room
    → CopyAllows lines ranks room copied room' → (copied ≡ Ok (kept_of lines ranks)) × (first_lines (kept_of lines ranks) room' ≡ kept_lines lines ranks)
copied_lines {lines = lines} {ranks} {room} {copied = copied} within ranked fits call =
    let e = call.answer ∙ copy_given lines ranks (length room) within ranked fits in
    (answer_determined copied (Ok (kept_of lines ranks)) e, front_written room e call.new_room (kept_length lines ranks))

-- ── demand 3, of what the check accepts ──

-- THEOREM. Where the check accepts, copying that has room gives at most k times (n - 1) lines, alike at k to the whole list.
pub checked_copied : (n k : ℕ) (lines ranks orders : List ℕ) {room room' : List ℕ} {copied : Result ℕ Refusal} → check_answer n k lines ranks orders ≡ given accepted
    → CopyAllows lines ranks room copied room' → 2 * kept_of lines ranks ≤ length room
    → (copied ≡ Ok (kept_of lines ranks)) × (kept_of lines ranks ≤ k * (n - 1)) × Alike n k lines (first_lines (kept_of lines ranks) room')
checked_copied n k lines ranks orders e call fits =
    let (g, _) = (check_accepts n k lines ranks orders).0 e in
    let (says, front) = copied_lines g.sound.within g.ranked fits call in
    (says, omega (arith, kept_length lines ranks, checked_few n k lines ranks orders e), rw front (checked_alike n k lines ranks orders e))

-- ── one list that pruning takes ──

module _ {n k count : ℕ} {lines starts ranks orders ranks' orders' : List ℕ} (call : PruneAllows n k lines starts ranks orders (Ok count) ranks' orders') where
  request : Request n k lines starts (plan_short n k lines (length ranks) (length orders))
  request = (given_request n k lines starts (length ranks) (length orders) (sym call.answer)).0

  -- THEOREM. "Ours among them": the check accepts what pruning leaves in its buffers, of whatever length these are.
  pub pruned_checked : check_answer n k lines ranks' orders' ≡ given accepted
  unfolding after
  pruned_checked =
      let P = pruned n k lines starts in
      let more = drop (length P.ranks) ranks in
      let rest = drop (length P.orders) orders in
      let size = pruned_size n k lines starts in
      let filled = pruned_filled n k lines starts in
      rw (call.new_ranks, call.new_orders)
      ((check_accepts n k lines (P.ranks ++ more) (P.orders ++ rest)).1 (
        record {
          sound = request.sound;
          some = request.sized.some;
          most = request.sized.most;
          ranked = simp length-append (omega (arith, size));
          ordered = simp length-append (omega (arith, filled));
        },
        meets_front n k lines P.ranks P.orders more rest (omega (arith, size)) (omega (arith, filled)) (pruned_meets n k lines starts request.sound request.starts_in),
      ))

  -- copying by the ranks that it leaves counts what pruning counts, and gives what pruning keeps
  pruned_copied : {room room' : List ℕ} {copied : Result ℕ Refusal} → CopyAllows lines ranks' room copied room' → 2 * count ≤ length room
      → (copied ≡ Ok count) × (first_lines count room' ≡ pruned_lines n k lines starts)
  unfolding after
  pruned_copied {room} copying fits =
      let P = (pruned n k lines starts).ranks in
      let more = drop (length P) ranks in
      let size = pruned_size n k lines starts in
      let is : ranks' ≡ P ++ more = call.new_ranks in
      let counts : kept_of lines ranks' ≡ count =
      ap (kept_of lines) is ∙ (count_front lines P more size ∙ (given_request n k lines starts (length ranks) (length orders) (sym call.answer)).1) in
      let ranked : length lines / 2 ≤ length ranks' = rw is (simp length-append (omega (arith, size))) in
      let (says, front) = copied_lines request.sound.within ranked (omega (arith, counts)) copying in
      (says ∙ ap Ok counts, rw counts at front ∙ (ap (kept_lines lines) is ∙ kept_front lines P more (omega (arith, size))))

-- ── "If two accepted lists over the same n stations have a union within the line limit, then pruning each at k, uniting what is kept and pruning
--    that at k, from any starts that pruning takes, gives a list alike at k to the union of the two originals." ──

module _ {n k x y : ℕ} {a b s t room₃ : List ℕ} {copied₁ copied₂ : Result ℕ Refusal} {said : Result ℕ Refusal}
    (calls : UnionCalls n k a b s t x y copied₁ copied₂ said room₃) (few : length (united a b) ≤ 16384) where
  one : Request n k a s (plan_short n k a (length calls.first.ranks) (length calls.first.orders))
  one = request calls.first.prunes

  two : Request n k b t (plan_short n k b (length calls.second.ranks) (length calls.second.orders))
  two = request calls.second.prunes

  first_kept : (copied₁ ≡ Ok x) × (first_lines x calls.room₁ ≡ pruned_lines n k a s)
  first_kept = pruned_copied calls.first.prunes calls.first.copies (calls.first.room_fits x refl)

  second_kept : (copied₂ ≡ Ok y) × (first_lines y calls.room₂ ≡ pruned_lines n k b t)
  second_kept = pruned_copied calls.second.prunes calls.second.copies (calls.second.room_fits y refl)

  -- what is united
  abbrev union : List ℕ
  union = united (first_lines x calls.room₁) (first_lines y calls.room₂)

  union_sound : Sound n union
  union_sound = rw (first_kept.1, second_kept.1) (kept_united_sound one.sound two.sound few (pruned n k a s).ranks (pruned n k b t).ranks)

  union_given : answer_of said ≡ given (length union / 2)
  union_given =
      calls.unites.answer
      ∙ unites_given n (first_lines x calls.room₁) (first_lines y calls.room₂) (length calls.room)
      (record {
        one = rw first_kept.1 (kept_sound one.sound (pruned n k a s).ranks);
        two = rw second_kept.1 (kept_sound two.sound (pruned n k b t).ranks);
        few = union_sound.within.few;
        fits = calls.room_fits;
      })

  -- THEOREM. Neither copying what is kept nor uniting it is refused.
  pub calls_given : (copied₁ ≡ Ok x) × (copied₂ ≡ Ok y) × (z : ℕ) × (said ≡ Ok z)
  calls_given = (first_kept.0, second_kept.0, length union / 2, answer_determined said (Ok (length union / 2)) union_given)

  -- THEOREM. Pruning the union from any k stations, and copying what is kept, is not refused, and gives a list alike at k to the union of the two.
  pub calls_alike : {z : ℕ} {r room₄ : List ℕ} {said₃ : Result ℕ Refusal} {copied₃ : Result ℕ Refusal} → said ≡ Ok z → length r ≡ k → StartsIn n k r
      → PruneAndCopy n k (first_lines z room₃) r said₃ copied₃ room₄
      → (w : ℕ) × (said₃ ≡ Ok w) × (copied₃ ≡ Ok w) × Alike n k (united a b) (first_lines w room₄)
  calls_alike {z} {r} {room₄} {said₃} {copied₃} told size r_in third =
      let e : given (length union / 2) ≡ given z = sym union_given ∙ ap answer_of told in
      let count : length union / 2 ≡ z = cc in
      let lines = first_lines z room₃ in
      let is : lines ≡ union = front_written {size = 2 * z} calls.room union_given calls.unites.new_room (omega (arith, union_sound.within.even)) in
      let w = kept_count (pruned n k lines r).ranks in
      let sound : Sound n lines = rw is union_sound in
      let in_order : Request n k lines r (plan_short n k lines (length third.ranks) (length third.orders)) =
      record {
        sized = record {
          within = sound.within;
          some = one.sized.some;
          most = one.sized.most;
          starts_count = size;
          room = enough_room n k lines (length third.ranks) (length third.orders) third.ranks_fit third.orders_fit;
        };
        sound = sound;
        starts_in = r_in;
      } in
      let says : said₃ ≡ Ok w =
      answer_determined said₃ (Ok w) (third.prunes.answer ∙ request_given n k lines r (length third.ranks) (length third.orders) in_order) in
      let call : PruneAllows n k lines r third.ranks third.orders (Ok w) third.ranks' third.orders' = rw says at third.prunes in
      let (copied, front) = pruned_copied call third.copies (third.room_fits w says) in
      let kept : lines ≡ kept_union n k a b s t = is ∙ ap₂ united first_kept.1 second_kept.1 in (
        w,
        says,
        copied,
        rw (front, kept) (pruned_united_alike n k a b s t r one.sound two.sound few one.starts_in two.starts_in r_in),
      )
