-- THEOREM. What writing answers follows its rows.
-- Assumes nothing.
use Prim.Native.Nat.{ℕ}
use mathlib.Core.List.{List}
use lib.ListN.{length}
use Rattle.laws.proofs.Truth.{ltb_exactly}
use Rattle.kinds.specs.Rows.{Follows}
use Rattle.kinds.proofs.Rows.{given_follows}
use Rattle.request.proofs.Rows.{request_follows}
use Rattle.writing.specs.Writing.{file_length, write_answer}
use Rattle.writing.specs.Rows.{write_rows}

pub write_follows : (n k : ℕ) (lines starts bytes : List ℕ) → Follows (write_answer n k lines starts bytes) (write_rows n k lines starts bytes)
unfolding write_answer
write_follows n k lines starts bytes =
    given_follows (file_length lines starts) (request_follows n k lines starts (ltb_exactly (length bytes) (file_length lines starts)))
