-- `pieces::join_ends` meets its contract. Equal entries are of one piece, which stays as it is; else what `root_of` finds is the name of
-- its station's piece, and names itself. Assumes nothing.
use native.Mathlib.Omega.{arith}
use Rattle.pieces.proofs.Tables.{named, named_in, merge_same, same_entry}
use Rattle.pieces.proofs.join_ends.Goals as goal

pub join_roots-requires : goal.join_roots-requires
join_roots-requires c =
    let a = c.args in
    let p = c.requires in
    let t = p.2 in
    let x = c.root_of-first.ensures.root t.names t.leads in
    let y = c.root_of-second.ensures.root t.names x.0 in
    let d = a.pieces.now in
    (omega (arith, named_in t.names d t.leads a.one.0 p.0 x.1), omega (arith, named_in t.names d t.leads a.two.0 p.1 y.1))

pub returns-then-pieces-one : goal.returns-then-pieces-one
returns-then-pieces-one c =
    let a = c.args in
    let p = c.requires in
    let d = a.pieces.now in
    record {
      joined = λ names leads.
          let x = c.root_of-first.ensures.root names leads in
          let y = c.root_of-second.ensures.root names x.0 in
          rw (x.1, y.1) at (c.join_roots.ensures.joined names y.0 (named names d leads a.one.0 p.0 x.1) (named names d leads a.two.0 p.1 y.1));
    }

pub returns-else-pieces-one : goal.returns-else-pieces-one
returns-else-pieces-one c =
    let a = c.args in
    let p = c.requires in
    record {
      joined = λ names leads.
          let e = same_entry names a.pieces.now leads a.one.0 a.two.0 p.0 p.1 c.if-pieces-one.false in
          rw (e, merge_same _ names) leads;
    }
