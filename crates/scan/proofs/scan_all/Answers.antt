-- `scan::scan_all` meets its contract. Assumes nothing.
use Prim.Native.Nat.{ℕ}
use mathlib.Core.Path.{◌≡◌, refl, sym, ap, ◌∙◌}
use mathlib.Core.List.{List, [], ◌∷◌, ◌++◌, append-nil}
use native.Mathlib.Omega.{arith}
use lib.ListN.{length, set, length-set, length-append}
use lib.Seq.{drop-length}
use Rattle.laws.specs.Fold.{up_to}
use Rattle.laws.proofs.Fold.{up_to_more}
use Rattle.laws.proofs.Lists.{store_next}
use Rattle.bits.specs.Sets.{members}
use Rattle.rule.specs.Rule.{Scanning, scanning, scan_next, all_scanned}
use Rattle.scan.proofs.Scannable.{scannable_alike}
use Rattle.scan.proofs.scan_all.Goals as goal

pub loop-slot-init : goal.loop-slot-init
unfolding up_to
loop-slot-init c = (refl, c.requires.1, [], refl, refl, refl)

pub scan_next-requires : goal.scan_next-requires
scan_next-requires c = scannable_alike c.requires.0 c.loop-slot.invariant.0

pub loop-slot-preserved : goal.loop-slot-preserved
loop-slot-preserved c =
    let a = c.args in
    let j = c.loop-slot.slot-index in
    let i = c.loop-slot.invariant in
    let u = c.scan_next.result.0 in
    let f : (ℕ → Scanning → Scanning) = λ x. scan_next a.n a.lines.now a.round.0 in (
      omega arith,
      simp length-set (omega (arith, i.1)),
      i.2 ++ (u ∷ []),
      simp length-append (omega (arith, i.3)),
      ap (λ (x : List ℕ). set x j u) i.4 ∙ store_next i.2 a.order.now j u i.3 (omega arith),
      (c.scan_next.ensures.scanned i.2 ∙ ap (f j) i.5) ∙ sym (up_to_more f _ j),
    )

pub returns : goal.returns
unfolding all_scanned
returns c =
    let a = c.args in
    let l = c.loop-slot in
    let e : l.slot-index ≡ a.n = omega (arith, c.requires.1) in
    let w : scanning l.ranks (members a.n l.progress.marked) (members a.n l.progress.scanned) l.invariant.2
    ≡ up_to (λ x. scan_next a.n a.lines.now a.round.0) (scanning a.ranks.now (members a.n a.progress.now.marked) (members a.n a.progress.now.scanned) []) a.n = rw e at l.invariant.5 in
    let g : l.slot-index ≡ length a.order.now = omega (arith, c.requires.1) in
    record { ranks = ap (λ (t : Scanning). t.ranks) w; order = ((rw g at l.invariant.4) ∙ simp (drop-length, append-nil)) ∙ ap (λ (t : Scanning). t.order) w }
