-- What the search for a weak spot says, in the document's numbers.
-- Assumes nothing.
use Rattle.std.specs.Prelude.{Option, Result, Ok, Err}
use Rattle.kinds.specs.Answers.{Answer, Answer.given, refusal_answer}
use Rattle.kinds.specs.declared.Refusal.{Refusal}
use Rattle.parting.specs.Standing.{Standing}
use Rattle.parting.specs.Answers.{found_standing}
use Rattle.parting.specs.declared.WeakSpot.{WeakSpot}

-- What it found, or why it refused.
abbrev pub searched_answer : Result (Option WeakSpot) Refusal → Answer Standing
searched_answer (Ok found) = given (found_standing found)
searched_answer (Err r) = refusal_answer r
