-- THEOREM. Two verdicts that are the same in the document's letters and numbers are the same.
-- The idea: a verdict can be made again from its letter and numbers. Assumes nothing.
use Prim.Native.Nat.{ℕ}
use mathlib.Core.Path.{◌≡◌, refl, sym, ap, ◌∙◌}
use Rattle.plans.specs.Verdicts.{Kind, Kind.A, Kind.B, Kind.C, Kind.D, Kind.E, Verdict as Said, Verdict.accepted, Verdict.faulty}
use Rattle.entries.specs.Answers.{kind_of, fault_place, verdict_said}
use Rattle.entries.specs.declared.FaultKind.{FaultKind}
use Rattle.entries.specs.declared.FaultKind.TheVariants.{RankAbove, NotEachOnce, ParentLacking, OtherParent, TreesApart}
use Rattle.entries.specs.declared.Verdict.{Verdict}
use Rattle.entries.specs.declared.Verdict.TheVariants.{Accepted, Faulty}

kind_from : Kind → ℕ → FaultKind
kind_from A place = RankAbove (record { 0 = place })
kind_from B place = NotEachOnce (record { 0 = place })
kind_from C place = ParentLacking (record { 0 = place })
kind_from D place = OtherParent (record { 0 = place })
kind_from E place = TreesApart (record { 0 = place })

kind_again : (kind : FaultKind) → kind_from (kind_of kind) (fault_place kind) ≡ kind
unfolding kind_from
kind_again (RankAbove place) = refl
kind_again (NotEachOnce position) = refl
kind_again (ParentLacking station) = refl
kind_again (OtherParent station) = refl
kind_again (TreesApart place) = refl

verdict_from : Said → Verdict
verdict_from accepted = Accepted
verdict_from (faulty round kind place) = Faulty (record { round = record { 0 = round }; kind = kind_from kind place })

verdict_again : (verdict : Verdict) → verdict_from (verdict_said verdict) ≡ verdict
unfolding verdict_from
verdict_again Accepted = refl
verdict_again (Faulty fault) = ap (λ (kind : FaultKind). Faulty (record { round = fault.round; kind = kind })) (kind_again fault.kind)

pub verdict_determined : (a b : Verdict) → verdict_said a ≡ verdict_said b → a ≡ b
verdict_determined a b e = sym (verdict_again a) ∙ (ap verdict_from e ∙ verdict_again b)
