-- `pieces::join_line` meets its contract. Each return rewrites the definition by the tests that led to it. Assumes nothing.
use Rattle.pieces.specs.Pieces.{join_line}
use Rattle.pieces.proofs.join_line.Goals as goal
use Rattle.pieces.proofs.join_line.Goals.{else-not-gone-line-via-then-not-gone-line+else-not-gone-line-2, else-not-gone-line-via-else-not-gone-line}

pub returns-then-not-gone-line-2 : goal.returns-then-not-gone-line-2
unfolding join_line
returns-then-not-gone-line-2 c =
    let l = c.line_at-line.ensures.ends in
    record { joined = λ names leads. rw (← l.0, ← l.1, c.if-not-gone-line.true, c.if-not-gone-line-2.true) (c.join_ends.ensures.joined names leads) }

pub returns-else-not-gone-line : goal.returns-else-not-gone-line
unfolding join_line
returns-else-not-gone-line c =
    let l = c.line_at-line.ensures.ends in
    record {
      joined = λ names leads. elim c.else-not-gone-line.branch [
        | else-not-gone-line-via-then-not-gone-line+else-not-gone-line-2 w ↦ rw (← l.0, ← l.1, w.if-not-gone-line.true, w.if-not-gone-line-2.false) leads
        | else-not-gone-line-via-else-not-gone-line w ↦ rw (← l.0, w.if-not-gone-line.false) leads
      ];
    }
