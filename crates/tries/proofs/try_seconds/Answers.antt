-- `tries::try_seconds` meets its contract. The pass says of each higher station whether the two part two others; the first that it marks is tried.
-- Assumes nothing.
use native.Mathlib.Omega.{arith}
use Prim.Native.Nat.{ℕ, ◌+◌, ◌≤◌, ◌<◌}
use mathlib.Core.Path.{◌≡◌, ap, ◌∙◌}
use mathlib.Core.List.{[], ◌∷◌}
use borrow.Author.Rules.{rules}
use Rattle.std.specs.Prelude.{None}
use Rattle.parting.specs.Standing.{Standing, without}
use Rattle.tries.specs.Cutting.{first_cut}
use Rattle.tries.proofs.Cutting.{seconds_none, seconds_first}
use Rattle.tries.proofs.try_seconds.Goals as goal

pub returns-in_err-two-clause-found : goal.returns-in_err-two-clause-found
returns-in_err-two-clause-found c =
    let a = c.args in
    let p = c.requires in
    let pass = c.find_seconds in
    let cut = pass.new.cut in
    let says = pass.ensures.seconds p.4 in
    let none : a.network.now.n ≤ first_cut cut (a.one.0 + 1) = omega (arith, c.in_err-two.ensures.first, pass.auto.cut, p.7) in
    let e : c.from_residual.result ≡ None = search rules in
    rw e (seconds_none (pass.auto.cut ∙ p.7) p.3 says none)

pub returns-clause-found : goal.returns-clause-found
returns-clause-found c =
    let a = c.args in
    let p = c.requires in
    let pass = c.find_seconds in
    let cut = pass.new.cut in
    let is = c.in_ok-two.ensures.first in
    let says = pass.ensures.seconds p.4 in
    let some : first_cut cut (a.one.0 + 1) < a.network.now.n = omega (arith, is, c.in_ok-two.ensures.station, pass.auto.cut, p.7) in
    let two : ℕ → Standing = λ x. without a.network.now.n a.network.now.lines.now (a.one.0 ∷ (x ∷ [])) in
    c.try_spot.ensures.found ∙ (ap two is ∙ seconds_first (pass.auto.cut ∙ p.7) p.3 says some)
