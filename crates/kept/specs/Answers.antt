-- What the contract of copying allows.
-- Assumes nothing.
use Rattle.std.specs.Prelude.{ℕ, ◌≡◌, List, length, Result}
use Rattle.kinds.specs.Answers.{answer_of}
use Rattle.kinds.specs.declared.Refusal.{Refusal}
use Rattle.kept.specs.Kept.{kept_lines, copy_answer, after}

-- The answer to a list, its ranks and a room, and what the room holds afterwards.
pub record CopyAllows (lines ranks room : List ℕ) (copied : Result ℕ Refusal) (room' : List ℕ) : Type 0 where
  pub answer : answer_of copied ≡ copy_answer lines ranks (length room)
  pub new_room : room' ≡ after (answer_of copied) (kept_lines lines ranks) room
