-- `pieces::join_roots` meets its contract. The law of joining, for each order of the two; a piece joined to itself stays. Assumes nothing.
use Prim.Native.Nat.{◌<◌, ◌≤◌}
use mathlib.Core.Path.{◌≡◌}
use native.Mathlib.Omega.{arith}
use borrow.Author.Rules.{rules}
use Rattle.pieces.proofs.Tables.{join_leads, join_leads_back, merge_same}
use Rattle.pieces.proofs.join_roots.Goals as goal

pub returns-then-lt : goal.returns-then-lt
returns-then-lt c =
    let a = c.args in
    let h : a.one.0 < a.two.0 = search rules in
    record { joined = λ names leads own-one own-two. join_leads names a.pieces.now leads a.one.0 a.two.0 h c.requires.1 own-one own-two }

pub returns-then-lt-2 : goal.returns-then-lt-2
returns-then-lt-2 c =
    let a = c.args in
    let h : a.two.0 < a.one.0 = search rules in
    record { joined = λ names leads own-one own-two. join_leads_back names a.pieces.now leads a.one.0 a.two.0 (omega arith) c.requires.0 own-one own-two }

pub returns-else-lt-2 : goal.returns-else-lt-2
returns-else-lt-2 c =
    let a = c.args in
    let h : a.two.0 ≤ a.one.0 = search rules in
    let k : a.one.0 ≤ a.two.0 = search rules in
    record { joined = λ names leads own-one own-two. let e : a.one.0 ≡ a.two.0 = omega arith in rw (e, merge_same a.two.0 names) leads }
