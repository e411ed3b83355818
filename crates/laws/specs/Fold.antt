-- Loops as definitions: a choice by a test, the state after all steps, and a search for the first answer.
-- Assumes nothing.
use Rattle.std.specs.Prelude.{ℕ, zero, suc, Bool, true, false}

-- The first where the test holds, else the second.
abbrev pub pick : {A : Type 0} → Bool → A → A → A
pick true a b = a
pick false a b = b

-- The state after the steps 0, 1, .. i - 1, from s.
unfoldable pub up_to : {S : Type 0} → (ℕ → S → S) → S → ℕ → S
up_to f s zero = s
up_to f s (suc i) = f i (up_to f s i)

-- The first answer that passes the test among those at the k numbers i, i + 1, .., or `last` where none passes.
unfoldable pub first_from : {A : Type 0} → (A → Bool) → (ℕ → A) → A → ℕ → ℕ → A
first_from test f last i zero = last
first_from test f last i (suc k) = pick (test (f i)) (f i) (first_from test f last (suc i) k)

-- Whether the test holds at one of the k numbers i, i + 1, ..
abbrev pub any_from : (ℕ → Bool) → ℕ → ℕ → Bool
any_from test i k = first_from (λ b. b) test false i k

-- The lowest number below n at which the test holds, or `last` where there is none.
abbrev pub lowest : (ℕ → Bool) → ℕ → ℕ → ℕ
lowest test n last = first_from test (λ i. i) last 0 n
