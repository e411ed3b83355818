-- THEOREM. Two results that the contract of a C routine allows are equal, all that it leaves behind too: the contract says of either that it is the
-- one value of specs/Calls. Assumes nothing.
use mathlib.Core.Path.{◌≡◌, sym, ◌∙◌}

pub call_once : {Results : Type 0} {call r s : Results} → r ≡ call → s ≡ call → r ≡ s
call_once a b = a ∙ sym b
