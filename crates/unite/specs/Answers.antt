-- What uniting's contract allows: its answer in the document's numbers, and what its room holds.
-- Assumes nothing.
use Rattle.std.specs.Prelude.{ℕ, ◌≡◌, List, length, Result}
use Rattle.kinds.specs.Answers.{answer_of}
use Rattle.kinds.specs.declared.Refusal.{Refusal}
use Rattle.kept.specs.Kept.{after}
use Rattle.unite.specs.Union.{united, union_answer}

-- The answer to two lists over n stations and a room, and what the room holds afterwards.
pub record UniteAllows (n : ℕ) (first second room : List ℕ) (said : Result ℕ Refusal) (room' : List ℕ) : Type 0 where
  pub answer : answer_of said ≡ union_answer n first second (length room)
  pub new_room : room' ≡ after (answer_of said) (united first second) room
