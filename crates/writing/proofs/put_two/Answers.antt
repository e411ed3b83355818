-- `writing::put_two` meets its contract. A number put in after a record of one is the record of two put in at once. Assumes nothing.
use Prim.Native.Nat.{ℕ, ◌+◌}
use mathlib.Core.Path.{refl, ap, ◌∙◌}
use mathlib.Core.List.{List}
use native.Mathlib.Omega.{arith}
use Rattle.reading.specs.Numbers.{number_bytes}
use Rattle.reading.specs.Parts.{placed}
use Rattle.reading.proofs.Parts.{placed_after}
use Rattle.writing.specs.Writing.{one_record}
use Rattle.writing.proofs.put_two.Goals as goal

pub returns : goal.returns
returns c =
    let a = c.args in
    let o = a.offset.0 in
    record {
      bytes = c.put_number.ensures.bytes
          ∙ (ap (λ (x : List ℕ). placed x (o + 4) (number_bytes a.two)) c.put_one.ensures.bytes
          ∙ placed_after a.bytes.now (one_record a.mark a.one) (number_bytes a.two) o (o + 4) (omega arith) refl);
    }
