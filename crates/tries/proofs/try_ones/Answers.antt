-- `tries::try_ones` meets its contract. The pass says of each station whether it alone parts two others; the first that it marks is tried.
-- Assumes nothing.
use native.Mathlib.Omega.{arith}
use Prim.Native.Nat.{ℕ, ◌≤◌, ◌<◌}
use mathlib.Core.Path.{◌≡◌, ap, ◌∙◌}
use mathlib.Core.List.{[], ◌∷◌}
use lib.ListN.{length}
use borrow.Author.Rules.{rules}
use Rattle.std.specs.Prelude.{None}
use Rattle.parting.specs.Standing.{Standing, without}
use Rattle.tries.specs.Cutting.{first_cut}
use Rattle.tries.proofs.Cutting.{ones_weak, ones_none, ones_first}
use Rattle.tries.proofs.try_ones.Goals as goal

pub returns-in_err-one-clause-found : goal.returns-in_err-one-clause-found
returns-in_err-one-clause-found c =
    let a = c.args in
    let p = c.requires in
    let cut = c.find_cuts.new.cut in
    let says = ones_weak a.network.now.n a.network.now.lines.now a.neighbours.now.begins.now a.neighbours.now.near.now a.gone.now cut (length a.pieces.now) p.2 a.network.now.sound p.0 p.1 c.find_cuts.ensures.cuts p.4 p.3 in
    let none : a.network.now.n ≤ first_cut cut 0 = omega (arith, c.in_err-one.ensures.first, c.find_cuts.auto.cut, p.6) in
    let e : c.from_residual.result ≡ None = search rules in
    rw e (ones_none (c.find_cuts.auto.cut ∙ p.6) says none)

pub returns-clause-found : goal.returns-clause-found
returns-clause-found c =
    let a = c.args in
    let p = c.requires in
    let cut = c.find_cuts.new.cut in
    let is = c.in_ok-one.ensures.first in
    let says = ones_weak a.network.now.n a.network.now.lines.now a.neighbours.now.begins.now a.neighbours.now.near.now a.gone.now cut (length a.pieces.now) p.2 a.network.now.sound p.0 p.1 c.find_cuts.ensures.cuts p.4 p.3 in
    let some : first_cut cut 0 < a.network.now.n = omega (arith, is, c.in_ok-one.ensures.station, c.find_cuts.auto.cut, p.6) in
    let one : ℕ → Standing = λ x. without a.network.now.n a.network.now.lines.now (x ∷ []) in
    c.try_spot.ensures.found ∙ (ap one is ∙ ones_first (c.find_cuts.auto.cut ∙ p.6) says some)
