-- The document's table of refusals, as rows: when a row holds, and by which number, place and list it then refuses.
-- Assumes nothing.
use Rattle.std.specs.Prelude.{ℕ, ◌<◌, ◌≡◌, ◌↔◌}
use Rattle.kinds.specs.Answers.{Answer, Answer.refused}

infixr 30 ◌then_try◌
-- What rows say: when a refusal by a number, a place and a list is right.
abbrev pub Rows : Type 1
Rows = (number place list : ℕ) → Type 0

-- One row: it refuses by these three where it holds.
pub data Row (holds : Type 0) (number place list : ℕ) : ℕ → ℕ → ℕ → Type 0 where
  because : holds → Row holds number place list number place list

-- None of the rows holds.
abbrev pub NoneOf : Rows → Type 0
NoneOf rows = (number place list : ℕ) → ¬ rows number place list

-- Some rows, then others: the first that holds is one of the former, or, where none of these holds, one of the latter.
pub data ◌then_try◌ (first next : Rows) (number place list : ℕ) : Type 0 where
  earlier : first number place list → (first then_try next) number place list
  later : NoneOf first → next number place list → (first then_try next) number place list

-- Rows for each index below a count, tried by rising index.
pub data EachOf (count : ℕ) (rows : ℕ → Rows) (number place list : ℕ) : Type 0 where
  at : (index : ℕ) → index < count → ((before : ℕ) → before < index → NoneOf (rows before)) → rows index number place list → EachOf count rows number place list

-- "Refusals are given when their row holds and no earlier one does, and never otherwise."
pub record Follows {A : Type 0} (answer : Answer A) (rows : Rows) : Type 0 where
  pub exactly : {number place list : ℕ} → (answer ≡ refused number place list) ↔ rows number place list
