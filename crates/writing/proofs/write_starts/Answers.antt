-- `writing::write_starts` meets its contract. Assumes nothing.
use Prim.Native.Nat.{ℕ, ◌+◌, ◌*◌}
use mathlib.Core.Path.{◌≡◌, refl, ap, ◌∙◌}
use mathlib.Core.List.{List}
use native.Mathlib.Omega.{arith}
use borrow.Author.Rules.{rules}
use lib.ListN.{length}
use Rattle.reading.specs.Parts.{placed, gathered}
use Rattle.reading.proofs.Parts.{gathered_none, gathered_next}
use Rattle.writing.specs.Writing.{start_record}
use Rattle.writing.proofs.write_starts.Goals as goal

pub loop-q-init : goal.loop-q-init
loop-q-init c = (search rules, refl, gathered_none (start_record c.args.starts.now) c.args.bytes.now (6 + 6 * c.args.count))

pub loop-q-preserved : goal.loop-q-preserved
loop-q-preserved c =
    let a = c.args in
    let i = c.loop-q.q in (
      omega arith,
      omega arith,
      c.put_one.ensures.bytes
          ∙ (ap (λ (x : List ℕ). placed x (6 + 6 * a.count + 4 * i) (start_record a.starts.now i)) c.loop-q.invariant.2
          ∙ gathered_next (start_record a.starts.now) 4 (λ j. refl) a.bytes.now (6 + 6 * a.count) (6 + 6 * a.count + 4 * i) i (omega arith) (omega arith)),
    )

pub returns : goal.returns
returns c =
    let a = c.args in
    let e : c.loop-q.q ≡ length a.starts.now = omega arith in
    record { bytes = c.loop-q.invariant.2 ∙ ap (λ (x : ℕ). placed a.bytes.now (6 + 6 * a.count) (gathered (start_record a.starts.now) x)) e }
