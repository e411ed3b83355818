-- What the check says, in the document's letters and numbers.
-- Assumes nothing.
use Rattle.std.specs.Prelude.{Result, Ok, Err}
use Rattle.kinds.specs.Answers.{Answer, Answer.given, refusal_answer}
use Rattle.kinds.specs.declared.Refusal.{Refusal}
use Rattle.plans.specs.Verdicts.{Verdict as Said}
use Rattle.entries.specs.declared.Verdict.{Verdict}
use Rattle.entries.specs.Answers.{verdict_said}

-- What it found, or why it refused.
abbrev pub checked_answer : Result Verdict Refusal → Answer Said
checked_answer (Ok verdict) = given (verdict_said verdict)
checked_answer (Err r) = refusal_answer r
