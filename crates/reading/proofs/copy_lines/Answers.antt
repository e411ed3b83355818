-- `reading::copy_lines` meets its contract. Assumes nothing.
use Prim.Native.Nat.{ℕ, ◌*◌}
use mathlib.Core.List.{List}
use mathlib.Core.Path.{◌≡◌, refl, ap, ◌∙◌}
use native.Mathlib.Omega.{arith}
use borrow.Author.Rules.{rules}
use Rattle.reading.specs.Parts.{placed}
use Rattle.reading.specs.Reading.{line_numbers, line_ends}
use Rattle.reading.proofs.Contents.{lines_none, lines_more}
use Rattle.reading.proofs.copy_lines.Goals as goal

pub loop-p-init : goal.loop-p-init
loop-p-init c =
    let a = c.args in
    (search rules, refl, lines_none a.bytes.now a.lines.now)

pub loop-p-preserved : goal.loop-p-preserved
loop-p-preserved c =
    let a = c.args in
    let i = c.loop-p.p in
    (omega arith, omega arith, c.copy_line.ensures.lines ∙ (ap (λ (x : List ℕ). placed x (2 * i) (line_ends a.bytes.now i)) c.loop-p.invariant.2 ∙ lines_more a.bytes.now a.lines.now i))

pub returns : goal.returns
returns c =
    let a = c.args in
    let e : c.loop-p.p ≡ a.count = omega arith in
    record { lines = c.loop-p.invariant.2 ∙ ap (λ (x : ℕ). placed a.lines.now 0 (line_numbers a.bytes.now x)) e }
