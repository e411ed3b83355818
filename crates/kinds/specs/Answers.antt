-- Answers in the document's words: a value, or a refusal's number, place and list; and tries made in order.
-- Assumes nothing.
use Rattle.std.specs.Prelude.{ℕ, Bool, true, false, Result, Ok, Err}
use Rattle.kinds.specs.Refusals.{number_of, place_of, list_of}
use Rattle.kinds.specs.declared.Refusal.{Refusal}

infixr 30 ◌and_then◌
-- A value, or the number, the place and the list of a refusal.
pub data Answer (A : Type 0) : Type 0 where
  given : A → Answer A
  refused : (number place list : ℕ) → Answer A

-- Not refused, and no more to say.
abbrev pub taken : Answer (Unit {0})
taken = given tt

-- Refused where the test holds.
abbrev pub refuse_if : Bool → (number place list : ℕ) → Answer (Unit {0})
refuse_if true number place list = refused number place list
refuse_if false number place list = taken

-- The first try's refusal, or what the tries after it say.
abbrev pub ◌and_then◌ : {A : Type 0} → Answer (Unit {0}) → Answer A → Answer A
◌and_then◌ (given done) next = next
◌and_then◌ (refused number place list) next = refused number place list

abbrev pub is_refused : {A : Type 0} → Answer A → Bool
is_refused (given value) = false
is_refused (refused number place list) = true

-- A refusal in the document's numbers.
abbrev pub refusal_answer : {A : Type 0} → Refusal → Answer A
refusal_answer r = refused (number_of r) (place_of r) (list_of r)

-- What a routine says, in the document's numbers: its value, or its refusal.
abbrev pub answer_of : {A : Type 0} → Result A Refusal → Answer A
answer_of (Ok value) = given value
answer_of (Err r) = refusal_answer r
