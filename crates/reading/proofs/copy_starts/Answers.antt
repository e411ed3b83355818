-- `reading::copy_starts` meets its contract. Assumes nothing.
use Prim.Native.Nat.{ℕ}
use mathlib.Core.List.{List}
use mathlib.Core.Path.{◌≡◌, refl, ap, ◌∙◌}
use native.Mathlib.Omega.{arith}
use borrow.Author.Rules.{rules}
use Rattle.reading.specs.Parts.{placed}
use Rattle.reading.specs.Reading.{start_numbers, start_station}
use Rattle.reading.proofs.Contents.{starts_none, starts_more}
use Rattle.reading.proofs.copy_starts.Goals as goal

pub loop-q-init : goal.loop-q-init
loop-q-init c =
    let a = c.args in
    (search rules, refl, starts_none a.bytes.now a.counts.lines a.starts.now)

pub loop-q-preserved : goal.loop-q-preserved
loop-q-preserved c =
    let a = c.args in
    let i = c.loop-q.q in
    (omega arith, omega arith, c.copy_start.ensures.starts ∙ (ap (λ (x : List ℕ). placed x i (start_station a.bytes.now a.counts.lines i)) c.loop-q.invariant.2 ∙ starts_more a.bytes.now a.starts.now a.counts.lines i))

pub returns : goal.returns
returns c =
    let a = c.args in
    let e : c.loop-q.q ≡ a.counts.starts = omega arith in
    record { starts = c.loop-q.invariant.2 ∙ ap (λ (x : ℕ). placed a.starts.now 0 (start_numbers a.bytes.now a.counts.lines x)) e }
