-- `writing::write_lines` meets its contract. Assumes nothing.
use Prim.Native.Nat.{ℕ, ◌+◌, ◌*◌, ◌/◌}
use mathlib.Core.Path.{◌≡◌, refl, ap, ◌∙◌}
use mathlib.Core.List.{List}
use native.Mathlib.Omega.{arith}
use borrow.Author.Rules.{rules}
use lib.ListN.{length}
use Rattle.reading.specs.Parts.{placed, gathered}
use Rattle.reading.proofs.Parts.{gathered_none, gathered_next}
use Rattle.writing.specs.Writing.{line_record}
use Rattle.writing.proofs.write_lines.Goals as goal

pub loop-p-init : goal.loop-p-init
loop-p-init c = (search rules, refl, gathered_none (line_record c.args.lines.now) c.args.bytes.now (6))

pub loop-p-preserved : goal.loop-p-preserved
loop-p-preserved c =
    let a = c.args in
    let i = c.loop-p.p in (
      omega arith,
      omega arith,
      c.put_two.ensures.bytes
          ∙ (ap (λ (x : List ℕ). placed x (6 + 6 * i) (line_record a.lines.now i)) c.loop-p.invariant.2
          ∙ gathered_next (line_record a.lines.now) 6 (λ j. refl) a.bytes.now (6) (6 + 6 * i) i (omega arith) (omega arith)),
    )

pub returns : goal.returns
returns c =
    let a = c.args in
    let e : c.loop-p.p ≡ length a.lines.now / 2 = omega arith in
    record { bytes = c.loop-p.invariant.2 ∙ ap (λ (x : ℕ). placed a.bytes.now (6) (gathered (line_record a.lines.now) x)) e }
