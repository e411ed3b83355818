-- THEOREM. Two lists that are alike at k have the same weak spot at k. The idea: a set of fewer than k stations parts the same stations in both.
-- Assumes nothing.

use Prim.Native.Nat.{ℕ, ◌+◌, ◌<◌, ◌≤◌}
use mathlib.Core.Path.{◌≡◌, refl, sym, ◌∙◌}
use mathlib.Core.Bool.{Bool, true, false, not, ◌&&◌, true≢false}
use mathlib.Core.List.{List, [], ◌∷◌}
use native.Mathlib.Decide.{dec_le}
use native.Mathlib.Omega.{arith}
use borrow.Author.Tests.{lt-leb}
use lib.Dec.{leb}
use Rattle.laws.specs.Fold.{pick}
use Rattle.laws.specs.Count.{count}
use Rattle.network.specs.Faults.{Sound}
use Rattle.pieces.specs.Joined.{Remains}
use Rattle.pieces.specs.Away.{is_away}
use Rattle.pieces.specs.Pieces.{one_piece}
use Rattle.pieces.proofs.Chains.{one_piece_joined, joined_one_piece}
use Rattle.certificate.specs.Alike.{Alike}
use Rattle.parting.specs.Standing.{Standing, Standing.stands, is_weak, lowest_remaining, lowest_apart, without}
use Rattle.tries.specs.Tries.{without_ones, without_seconds, without_twos, weak_spot}
use Rattle.parting.proofs.Remaining.{lowest_remains, none_few, one_few, two_few}
use Rattle.laws.proofs.Fold.{first_same, lowest_same}

module _ {n k : ℕ} {lines lines' : List ℕ} (sound : Sound n lines) (sound' : Sound n lines') (alike : Alike n k lines lines') where
  -- two stations that remain are of one piece in both, or in neither
  same_piece : (away : ℕ → Bool) → count n away < k → (a b : ℕ) → Remains n away a → Remains n away b → one_piece n lines away a b ≡ one_piece n lines' away a b
  same_piece away few a b r s = go (one_piece n lines away a b) refl (one_piece n lines' away a b) refl
    where
      go : (x : Bool) → one_piece n lines away a b ≡ x → (y : Bool) → one_piece n lines' away a b ≡ y → x ≡ y
      go true e true f = refl
      go false e false f = refl
      go true e false f =
          absurd (true≢false (sym (joined_one_piece n lines' away sound'.simple.proper ((alike.same away few a b r s).0 (one_piece_joined n lines away sound.simple.proper r s e))) ∙ f))
      go false e true f =
          absurd (true≢false (sym (joined_one_piece n lines away sound.simple.proper ((alike.same away few a b r s).1 (one_piece_joined n lines' away sound'.simple.proper r s f))) ∙ e))

  same_apart : (away : ℕ → Bool) → count n away < k → lowest_apart n lines away (lowest_remaining n away) ≡ lowest_apart n lines' away (lowest_remaining n away)
  unfolding lowest_apart
  same_apart away few = lowest_same (λ v. not (away v) && not (one_piece n lines away a v)) (λ v. not (away v) && not (one_piece n lines' away a v)) n n (λ v l. go v l (away v) refl)
    where
      a : ℕ
      a = lowest_remaining n away

      go : (v : ℕ) → v < n → (b : Bool) → away v ≡ b → (not b && not (one_piece n lines away a v)) ≡ (not b && not (one_piece n lines' away a v))
      go v l true e = refl
      go v l false e =
          let s : Remains n away v = record { station = l; stays = e } in
          rw (same_piece away few a v (lowest_remains n away v s).remains s)

  same_without : (spot : List ℕ) → count n (is_away spot) < k → without n lines spot ≡ without n lines' spot
  unfolding without
  same_without spot few = rw (same_apart (is_away spot) few)

  same_ones : 2 ≤ k → without_ones n lines ≡ without_ones n lines'
  unfolding without_ones
  same_ones h =
      first_same is_weak (λ v. without n lines (v ∷ [])) (λ v. without n lines' (v ∷ [])) stands n 0
      (λ v a b. same_without (v ∷ []) (omega (arith, one_few n v)))

  same_seconds : 3 ≤ k → (v : ℕ) → without_seconds n lines v ≡ without_seconds n lines' v
  unfolding without_seconds
  same_seconds h v =
      first_same is_weak (λ w. without n lines (v ∷ (w ∷ []))) (λ w. without n lines' (v ∷ (w ∷ []))) stands _ (v + 1)
      (λ w a b. same_without (v ∷ (w ∷ [])) (omega (arith, two_few n v w)))

  same_twos : 3 ≤ k → without_twos n lines ≡ without_twos n lines'
  unfolding without_twos
  same_twos h =
      first_same is_weak (without_seconds n lines) (without_seconds n lines') stands n 0
      (λ v a b. same_seconds h v)

  -- what is tried at a level, or not
  same_from : (m : ℕ) (one two : Standing) → (m ≤ k → one ≡ two) → pick (leb m k) one stands ≡ pick (leb m k) two stands
  same_from m one two same = go (dec_le m k)
    where
      go : Dec (m ≤ k) → pick (leb m k) one stands ≡ pick (leb m k) two stands
      go (yes h) = rw (same h)
      go (no h) = rw (lt-leb m k (omega arith))

  pub alike_weak_spot : 1 ≤ k → weak_spot n k lines ≡ weak_spot n k lines'
  unfolding weak_spot
  alike_weak_spot h =
      rw (same_without [] (omega (arith, none_few n)), same_from 2 (without_ones n lines) (without_ones n lines') same_ones, same_from 3 (without_twos n lines) (without_twos n lines') same_twos)
