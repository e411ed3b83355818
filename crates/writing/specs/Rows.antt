-- The rows of writing: "Writing refuses as pruning does, with its byte buffer as the only room".
-- Assumes nothing.
use Rattle.std.specs.Prelude.{ℕ, ◌<◌, List, length}
use Rattle.kinds.specs.Rows.{Rows}
use Rattle.request.specs.Rows.{request_rows}
use Rattle.writing.specs.Writing.{file_length}

abbrev pub write_rows : ℕ → ℕ → (lines starts bytes : List ℕ) → Rows
write_rows n k lines starts bytes = request_rows n k lines starts (length bytes < file_length lines starts)
