-- What the check finds, in the document's letters and numbers.
-- Assumes nothing.
use Rattle.std.specs.Prelude.{ℕ, Result, Ok, Err}
use Rattle.plans.specs.Verdicts.{Kind, Kind.A, Kind.B, Kind.C, Kind.D, Kind.E, Verdict as Said, Verdict.accepted, Verdict.faulty}
use Rattle.entries.specs.declared.FaultKind.{FaultKind}
use Rattle.entries.specs.declared.FaultKind.TheVariants.{RankAbove, NotEachOnce, ParentLacking, OtherParent, TreesApart}
use Rattle.entries.specs.declared.Fault.{Fault}
use Rattle.entries.specs.declared.Verdict.{Verdict}
use Rattle.entries.specs.declared.Verdict.TheVariants.{Accepted, Faulty}

-- The table's letter.
abbrev pub kind_of : FaultKind → Kind
kind_of (RankAbove place) = A
kind_of (NotEachOnce position) = B
kind_of (ParentLacking station) = C
kind_of (OtherParent station) = D
kind_of (TreesApart place) = E

-- Its own place: a line's place, a position or a station.
abbrev pub fault_place : FaultKind → ℕ
fault_place (RankAbove place) = place.0
fault_place (NotEachOnce position) = position.0
fault_place (ParentLacking station) = station.0
fault_place (OtherParent station) = station.0
fault_place (TreesApart place) = place.0

-- Nothing wrong, or the first fault.
abbrev pub verdict_said : Verdict → Said
verdict_said Accepted = accepted
verdict_said (Faulty fault) = faulty fault.round.0 (kind_of fault.kind) (fault_place fault.kind)

-- The same, where the check stops at a fault as at an error.
abbrev pub fault_said : Result (Unit {0}) Fault → Said
fault_said (Ok done) = accepted
fault_said (Err fault) = faulty fault.round.0 (kind_of fault.kind) (fault_place fault.kind)
