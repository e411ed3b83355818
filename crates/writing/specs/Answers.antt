-- What the contract of writing allows.
-- Assumes nothing.
use Rattle.std.specs.Prelude.{ℕ, ◌≡◌, List, Result}
use Rattle.kinds.specs.Answers.{answer_of}
use Rattle.kinds.specs.declared.Refusal.{Refusal}
use Rattle.writing.specs.Writing.{write_answer, bytes_after}

-- The answer to a network, a level, starts and a byte buffer, and what the buffer holds afterwards.
pub record WriteAllows (n k : ℕ) (lines starts bytes : List ℕ) (said : Result ℕ Refusal) (bytes' : List ℕ) : Type 0 where
  pub answer : answer_of said ≡ write_answer n k lines starts bytes
  pub new_bytes : bytes' ≡ bytes_after (write_answer n k lines starts bytes) n k lines starts bytes
