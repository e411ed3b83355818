-- The document's examples of what keep writes, to the byte: Q at level 2, and a refusal of number 8 at place 1.
-- Assumes nothing.
use mathlib.Core.Path.{◌≡◌, refl}
use mathlib.Core.List.{[], ◌∷◌}
use Rattle.laws.specs.Fold.{up_to}
use Rattle.report.specs.Example.{keep_example}
use Rattle.report.specs.Text.{digits, decimal, header_text, line_text, row_text, kept_text, keep_text, refused_text}

pub kept_example : keep_text 4 2 (0 ∷ 1 ∷ 0 ∷ 2 ∷ 0 ∷ 3 ∷ 1 ∷ 2 ∷ 1 ∷ 3 ∷ 2 ∷ 3 ∷ []) (1 ∷ 1 ∷ 1 ∷ 2 ∷ 2 ∷ 0 ∷ []) 5 ≡ keep_example
unfolding keep_text header_text kept_text row_text line_text decimal digits up_to
kept_example = refl

pub refused_example : refused_text 8 1 ≡ 114 ∷ 101 ∷ 102 ∷ 117 ∷ 115 ∷ 101 ∷ 100 ∷ 32 ∷ 56 ∷ 32 ∷ 97 ∷ 116 ∷ 32 ∷ 49 ∷ 10 ∷ []
unfolding refused_text decimal digits
refused_example = refl
