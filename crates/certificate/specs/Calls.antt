-- Pruning lists, copying what is kept and uniting it, as a program calls them: what each call may answer and leave behind.
-- Assumes nothing.
use Rattle.std.specs.Prelude.{ℕ, ◌*◌, ◌/◌, ◌≤◌, ◌≡◌, List, length, take, Result, Ok}
use Rattle.kept.specs.Answers.{CopyAllows}
use Rattle.prune.specs.Answers.{PruneAllows}
use Rattle.unite.specs.Union.{united}
use Rattle.unite.specs.Answers.{UniteAllows}
use Rattle.kinds.specs.declared.Refusal.{Refusal}

-- The first lines in a room.
abbrev pub first_lines : ℕ → List ℕ → List ℕ
first_lines count room = take (2 * count) room

-- A list is pruned at k; then what is kept is copied by the ranks that pruning left. Every buffer has room, and holds whatever it held before.
pub record PruneAndCopy (n k : ℕ) (lines starts : List ℕ) (said : Result ℕ Refusal) (copied : Result ℕ Refusal) (room' : List ℕ) : Type 0 where
  pub ranks : List ℕ
  pub orders : List ℕ
  pub ranks' : List ℕ
  pub orders' : List ℕ
  pub room : List ℕ
  pub prunes : PruneAllows n k lines starts ranks orders said ranks' orders'
  pub copies : CopyAllows lines ranks' room copied room'
  pub ranks_fit : length lines / 2 ≤ length ranks
  pub orders_fit : k * n ≤ length orders
  pub room_fits : (count : ℕ) → said ≡ Ok count → 2 * count ≤ length room

-- Two lists are pruned, x lines of the one and y of the other are kept and copied, and what was copied is united in a room that is long enough.
pub record UnionCalls (n k : ℕ) (a b s t : List ℕ) (x y : ℕ) (copied₁ copied₂ : Result ℕ Refusal) (said : Result ℕ Refusal) (room' : List ℕ) : Type 0 where
  pub room₁ : List ℕ
  pub room₂ : List ℕ
  pub room : List ℕ
  pub first : PruneAndCopy n k a s (Ok x) copied₁ room₁
  pub second : PruneAndCopy n k b t (Ok y) copied₂ room₂
  pub unites : UniteAllows n (first_lines x room₁) (first_lines y room₂) room said room'
  pub room_fits : length (united (first_lines x room₁) (first_lines y room₂)) ≤ length room
