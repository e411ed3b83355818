-- The laws of tries made in order.
-- Assumes nothing.
use Prim.Native.Nat.{ℕ}
use mathlib.Core.Path.{◌≡◌, refl, sym, ap}
use mathlib.Core.Bool.{Bool, true, false, true≢false}
use mathlib.Core.Logic.{◌⊎◌, ◌⊎◌.inl, ◌⊎◌.inr}
use Rattle.std.specs.Prelude.{Result, Ok, Err, IsErrAnd}
use Rattle.kinds.specs.declared.Refusal.{Refusal}
use Rattle.kinds.specs.Answers.{Answer, Answer.given, Answer.refused, taken, refuse_if, ◌and_then◌, is_refused, refusal_answer, answer_of}

-- A try that does not refuse is passed over.
pub then_next : {A : Type 0} (a : Answer (Unit {0})) (b : Answer A) → is_refused a ≡ false → a and_then b ≡ b
then_next (given x) b e = refl
then_next (refused number place list) b e = absurd (true≢false e)

-- A try that refuses is the answer.
pub then_refused : (a b : Answer (Unit {0})) → is_refused a ≡ true → a and_then b ≡ a
then_refused (given x) b e = absurd (true≢false (sym e))
then_refused (refused number place list) b e = refl

-- Where tries in order do not refuse, neither did the first.
pub then_both : {A : Type 0} (a : Answer (Unit {0})) (b : Answer A) → is_refused (a and_then b) ≡ false → (is_refused a ≡ false) × (is_refused b ≡ false)
then_both (given x) b e = (refl, e)
then_both (refused number place list) b e = absurd (true≢false e)

-- What is not refused is taken.
pub taken_is : (a : Answer (Unit {0})) → is_refused a ≡ false → a ≡ taken
taken_is (given x) e = refl
taken_is (refused number place list) e = absurd (true≢false e)

-- A test that does not refuse does not hold.
pub passed : (b : Bool) (number place list : ℕ) → is_refused (refuse_if b number place list) ≡ false → b ≡ false
passed true number place list e = absurd (true≢false e)
passed false number place list e = refl

-- Tries in order are one after the other, however they are grouped.
pub then_group : {A : Type 0} (a b : Answer (Unit {0})) (c : Answer A) → (a and_then b) and_then c ≡ a and_then (b and_then c)
then_group (given x) b c = refl
then_group (refused number place list) b c = refl

-- Where the first two of three tries refuse, that is the answer; where they are taken, the third says it.
pub then_refusal : {A : Type 0} (a b : Answer (Unit {0})) (c : Answer A) {number place list : ℕ} → a and_then b ≡ refused number place list
    → refused number place list ≡ a and_then (b and_then c)
then_refusal a b c e = rw e at (then_group a b c)

pub then_taken : {A : Type 0} (a b : Answer (Unit {0})) (c : Answer A) → a and_then b ≡ taken → c ≡ a and_then (b and_then c)
then_taken a b c e = rw e at (then_group a b c)

-- Tries that refuse: the first does, or it is taken and the rest does.
pub then_cases : {A : Type 0} (a : Answer (Unit {0})) (b : Answer A) {number place list : ℕ} → a and_then b ≡ refused number place list
    → (a ≡ refused number place list) ⊎ ((a ≡ taken) × (b ≡ refused number place list))
then_cases (given x) b e = inr (refl, e)
then_cases (refused number' place' list') b {number} {place} {list} e =
    let x : number' ≡ number = cc in
    let y : place' ≡ place = cc in
    let z : list' ≡ list = cc in
    inl (rw (x, y, z))

-- Two tries that are made again after a third change nothing.
pub then_again : {A : Type 0} (a b c : Answer (Unit {0})) (d : Answer A) → (a and_then (b and_then c)) and_then (a and_then (b and_then d)) ≡ a and_then (b and_then (c and_then d))
then_again (given x) (given y) c d = refl
then_again (given x) (refused number place list) c d = refl
then_again (refused number place list) b c d = refl

-- Where tries in order give a value, the first was taken and the others give it.
pub then_given : {A : Type 0} {value : A} (a : Answer (Unit {0})) (b : Answer A) → a and_then b ≡ given value → (a ≡ taken) × (b ≡ given value)
then_given (given x) b e = (refl, e)
then_given (refused number place list) b e = absurd (true≢false (ap is_refused e))

-- What `?` passes on is the refusal that came to it.
pub passed_on : {A : Type 0} (r : Result A Refusal) (e : Refusal) → IsErrAnd r (λ s. s ≡ e) → answer_of r ≡ refusal_answer e
passed_on (Ok x) e h = absurd h
passed_on (Err s) e h = rw h
