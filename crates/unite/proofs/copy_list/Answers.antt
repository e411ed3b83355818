-- `unite::copy_list` meets its contract. Assumes nothing.
use mathlib.Core.Path.{◌≡◌, refl}
use mathlib.Core.List.{[], append-nil}
use native.Mathlib.Omega.{arith}
use lib.ListN.{length, drop}
use lib.Seq.{take-length}
use Rattle.std.proofs.lemmas.List.{drop_all}
use Rattle.unite.proofs.Adding.{copy_next}
use Rattle.unite.proofs.copy_list.Goals as goal

pub loop-i-init : goal.loop-i-init
loop-i-init c = refl

pub loop-i-preserved : goal.loop-i-preserved
loop-i-preserved c = rw c.loop-i.invariant (copy_next c.args.lines.now c.args.room.now c.loop-i.i (omega arith) (omega (arith, c.requires)))

pub returns : goal.returns
returns c =
    let a = c.args in
    let e : c.loop-i.i ≡ length a.lines.now = omega (arith, c.requires) in
    let none : drop (length a.lines.now) a.room.now ≡ [] = drop_all (length a.lines.now) a.room.now (omega (arith, c.requires)) in
    record { copied = rw (e, take-length a.lines.now, none, append-nil a.lines.now) at c.loop-i.invariant }
