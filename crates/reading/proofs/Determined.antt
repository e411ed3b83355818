-- THEOREM. Two results that reading's contract allows are equal, the buffers' contents too.
-- The idea: what was found can be made again from its facts. Assumes nothing.
use Prim.Native.Nat.{ℕ}
use mathlib.Core.Path.{◌≡◌, sym, ap, ◌∙◌}
use mathlib.Core.List.{List}
use Rattle.std.specs.Prelude.{Result, Ok, Err}
use Rattle.kinds.specs.declared.Refusal.{Refusal}
use Rattle.kinds.proofs.Determined.{refusal_determined}
use Rattle.reading.specs.Reading.{Facts}
use Rattle.reading.specs.Answers.{facts_of, reading_answer, ReadAllows}
use Rattle.reading.specs.declared.Found.{Found}

abbrev found_of : Facts → Found
found_of facts = record { stations = facts.stations; level = record { 0 = facts.level }; counts = record { lines = facts.lines; starts = facts.starts } }

-- two answers that are the same in the document's numbers are the same
pub reading_determined : (a b : Result Found Refusal) → reading_answer a ≡ reading_answer b → a ≡ b
reading_determined (Ok a) (Ok b) e = let f : facts_of a ≡ facts_of b = cc in ap (λ (x : Facts). Ok (found_of x)) f
reading_determined (Ok a) (Err b) e = cc
reading_determined (Err a) (Ok b) e = cc
reading_determined (Err a) (Err b) e = ap Err (refusal_determined a b (cc) (cc) (cc))

pub read_once : {bytes lines starts lines₁ starts₁ lines₂ starts₂ : List ℕ} {r s : Result Found Refusal}
    → ReadAllows bytes lines starts r lines₁ starts₁ → ReadAllows bytes lines starts s lines₂ starts₂ → (r ≡ s) × (lines₁ ≡ lines₂) × (starts₁ ≡ starts₂)
read_once {r = r} {s = s} a b =
    (reading_determined r s (a.answer ∙ sym b.answer), a.new_lines ∙ sym b.new_lines, a.new_starts ∙ sym b.new_starts)
