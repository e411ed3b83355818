-- Tries made in order: the first try's fault, or what the tries after it say.
-- Assumes nothing.
use mathlib.Core.Path.{◌≡◌, refl, sym}
use mathlib.Core.Bool.{true, false, true≢false}
use Rattle.plans.specs.Verdicts.{Verdict, Verdict.accepted, Verdict.faulty, ◌or_else◌, is_faulty}

pub or_faulty : (first next : Verdict) → is_faulty first ≡ true → (first or_else next) ≡ first
or_faulty accepted next e = absurd (true≢false (sym e))
or_faulty (faulty round kind place) next e = refl

pub or_next : (first next : Verdict) → is_faulty first ≡ false → (first or_else next) ≡ next
or_next accepted next e = refl
or_next (faulty round kind place) next e = absurd (true≢false e)
