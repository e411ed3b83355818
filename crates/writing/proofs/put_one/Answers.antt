-- `writing::put_one` meets its contract. A number put in after the mark is the record put in at once. Assumes nothing.
use Prim.Native.Nat.{ℕ, ◌+◌}
use mathlib.Core.Path.{refl, ap, ◌∙◌}
use mathlib.Core.List.{List}
use native.Mathlib.Omega.{arith}
use Rattle.reading.specs.Numbers.{number_bytes}
use Rattle.reading.specs.Parts.{placed}
use Rattle.reading.proofs.Parts.{placed_after}
use Rattle.writing.proofs.put_one.Goals as goal

pub returns : goal.returns
returns c =
    let a = c.args in
    let o = a.offset.0 in
    record {
      bytes = c.put_number-2.ensures.bytes
          ∙ (ap (λ (x : List ℕ). placed x (o + 2) (number_bytes a.number)) c.put_number.ensures.bytes
          ∙ placed_after a.bytes.now (number_bytes a.mark) (number_bytes a.number) o (o + 2) (omega arith) refl);
    }
