-- The laws of rows: tries made in order follow their rows in that order.
-- Assumes nothing.
use Prim.Native.Nat.{ℕ, ◌<◌}
use mathlib.Core.Path.{◌≡◌, refl, sym, ap, ◌∙◌}
use mathlib.Core.Bool.{Bool, true, false, true≢false}
use mathlib.Core.Logic.{◌↔◌, ◌⊎◌, ◌⊎◌.inl, ◌⊎◌.inr}
use native.Mathlib.Omega.{arith}
use Rattle.laws.specs.Fold.{first_from}
use Rattle.laws.proofs.Fold.{FoundAt, FoundNone, first_cases, first_at}
use Rattle.kinds.specs.Answers.{Answer, Answer.given, Answer.refused, taken, refuse_if, ◌and_then◌, is_refused}
use Rattle.kinds.specs.Rows.{Rows, Row, Row.because, NoneOf, ◌then_try◌, ◌then_try◌.earlier, ◌then_try◌.later, EachOf, EachOf.at, Follows}
use Rattle.kinds.proofs.Answers.{then_next, then_cases}

-- A refusal by a row's three numbers is the row's where it holds; and what a row refuses holds, and has its numbers.
pub refusal_row : {A holds : Type 0} {number place list number' place' list' : ℕ} → ◌≡◌ {A = Answer A} (refused number place list) (refused number' place' list')
    → holds → Row holds number place list number' place' list'
refusal_row {number} {place} {list} {number'} {place'} {list'} e h =
    let x : number ≡ number' = cc in
    let y : place ≡ place' = cc in
    let z : list ≡ list' = cc in
    rw (x, y, z) (because h)

row_refusal : {A holds : Type 0} {number place list number' place' list' : ℕ} → Row holds number place list number' place' list'
    → holds × (◌≡◌ {A = Answer A} (refused number place list) (refused number' place' list'))
row_refusal (because h) = (h, refl)

-- A refusal where a test holds follows the row that the test tells exactly.
pub row_follows : {b : Bool} {holds : Type 0} {number place list : ℕ} → (b ≡ true) ↔ holds → Follows (refuse_if b number place list) (Row holds number place list)
row_follows {b = true} tells = record { exactly = (λ e. refusal_row e (tells.0 refl), λ r. (row_refusal r).1) }
row_follows {b = false} tells =
    record { exactly = (λ e. absurd (true≢false (sym (ap is_refused e))), λ r. absurd (true≢false (sym (tells.1 (row_refusal {A = Unit {0}} r).0)))) }

-- An answer is not refused exactly where none of its rows holds.
pub follows_none : {A : Type 0} {answer : Answer A} {rows : Rows} → Follows answer rows → (is_refused answer ≡ false) ↔ NoneOf rows
follows_none {A} {answer} {rows} f = (λ e number place list r. true≢false (sym (ap is_refused (f.exactly.1 r)) ∙ e), λ none. go answer refl none)
  where
    go : (x : Answer A) → answer ≡ x → NoneOf rows → is_refused x ≡ false
    go (given value) e none = refl
    go (refused number place list) e none = absurd (none number place list (f.exactly.0 e))

-- One try after another follows the rows of the one, then those of the other.
pub then_follows : {A : Type 0} {a : Answer (Unit {0})} {b : Answer A} {first next : Rows} → Follows a first → Follows b next → Follows (a and_then b) (first then_try next)
then_follows {a} {b} {first} {next} f g = record { exactly = (λ e. there (then_cases a b e), λ r. back r) }
  where
    there : {number place list : ℕ} → (a ≡ refused number place list) ⊎ ((a ≡ taken) × (b ≡ refused number place list)) → (first then_try next) number place list
    there (inl e) = earlier (f.exactly.0 e)
    there (inr (t, e)) = later ((follows_none f).0 (ap is_refused t)) (g.exactly.0 e)

    back : {number place list : ℕ} → (first then_try next) number place list → a and_then b ≡ refused number place list
    back (earlier r) = rw (f.exactly.1 r)
    back (later none r) = then_next a b ((follows_none f).1 none) ∙ g.exactly.1 r

-- A value that is given after tries adds no row.
pub given_follows : {A : Type 0} {a : Answer (Unit {0})} {rows : Rows} (value : A) → Follows a rows → Follows (a and_then given value) rows
given_follows {A} {a} {rows} value f = record { exactly = (λ e. there (then_cases a (given value) e), λ r. rw (f.exactly.1 r)) }
  where
    there : {number place list : ℕ} → (a ≡ refused number place list) ⊎ ((a ≡ taken) × (◌≡◌ {A = Answer A} (given value) (refused number place list))) → rows number place list
    there (inl e) = f.exactly.0 e
    there (inr (t, e)) = absurd (true≢false (sym (ap is_refused e)))

-- A search for the first refusal follows the rows of each index.
pub each_follows : {f : ℕ → Answer (Unit {0})} {rows : ℕ → Rows} {count : ℕ} → ((index : ℕ) → index < count → Follows (f index) (rows index))
    → Follows (first_from is_refused f taken 0 count) (EachOf count rows)
each_follows {f} {rows} {count} each = record { exactly = (λ e. there e (first_cases is_refused f taken 0 count), λ r. back r) }
  where
    answer : Answer (Unit {0})
    answer = first_from is_refused f taken 0 count

    there : {number place list : ℕ} → answer ≡ refused number place list
        → FoundAt is_refused f 0 count answer ⊎ FoundNone is_refused f taken 0 count answer → EachOf count rows number place list
    there e (inl r) =
        at r.place (omega (arith, r.below)) (λ before h. (follows_none (each before (omega (arith, r.below)))).0 (r.earlier before (omega arith) h))
        ((each r.place (omega (arith, r.below))).exactly.0 (sym r.is ∙ e))
    there e (inr r) = absurd (true≢false (ap is_refused (sym e ∙ r.is)))

    back : {number place list : ℕ} → EachOf count rows number place list → answer ≡ refused number place list
    back (at index h none r) =
        let here = (each index h).exactly.1 r in
        first_at is_refused f taken count index h (ap is_refused here) (λ before l. (follows_none (each before (omega arith))).1 (none before l)) ∙ here
