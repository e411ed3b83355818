-- What the check of forests says of a plan: accepted, or its first fault, with its round, its kind and its own place.
-- Assumes nothing.
use Rattle.std.specs.Prelude.{ℕ, Bool, true, false}

infixr 30 ◌or_else◌
-- The kinds of the document's table.
pub data Kind : Type 0 where
  A B C D E : Kind

pub data Verdict : Type 0 where
  accepted : Verdict
  faulty : (round : ℕ) → Kind → (place : ℕ) → Verdict

-- A fault where the test holds.
abbrev pub fault_if : Bool → (round : ℕ) → Kind → (place : ℕ) → Verdict
fault_if true round kind place = faulty round kind place
fault_if false round kind place = accepted

-- The first try's fault, or what the tries after it say.
abbrev pub ◌or_else◌ : Verdict → Verdict → Verdict
◌or_else◌ accepted next = next
◌or_else◌ (faulty round kind place) next = faulty round kind place

abbrev pub is_faulty : Verdict → Bool
is_faulty accepted = false
is_faulty (faulty round kind place) = true
