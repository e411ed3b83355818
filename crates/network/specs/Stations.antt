-- A station that is looked for.
-- Assumes nothing.
use Rattle.std.specs.Prelude.{ℕ, Option, Some, None}
use Rattle.kinds.specs.declared.Station.{Station}

-- The number of a station that is found; n where none is.
abbrev pub number_or : ℕ → Option Station → ℕ
number_or n None = n
number_or n (Some v) = v.0
