-- `judging::judge_marked` meets its contract. The first line that stood earlier is refused where it is among those with good ends, else
-- the line after them, else none is. Assumes nothing.
use Prim.Native.Nat.{◌*◌, ◌≤◌}
use mathlib.Core.Path.{◌≡◌, sym, ◌∙◌}
use native.Mathlib.Omega.{arith}
use lib.ListN.{length, take}
use lib.Seq.{length-take-le}
use Rattle.kinds.specs.Refusals.{list_number}
use Rattle.judging.proofs.Lines.{good_most, part_marks, stood_refused, ends_refused, none_refused}
use Rattle.judging.proofs.judge_marked.Goals as goal
use Rattle.judging.proofs.judge_marked.Goals.{After-div_ceil-words}

-- there are at most 8,192 lines with good ends, so 128 words are enough
few : (c : After-div_ceil-words) → c.args.until ≤ 8192
few c = omega (arith, c.requires.0, c.requires.1, good_most (list_number c.args.list) c.args.n c.args.lines.now)

size : (c : After-div_ceil-words) → length (take c.div_ceil-words.result c.args.again.now) ≡ c.div_ceil-words.result
size c = length-take-le c.div_ceil-words.result c.args.again.now (omega (arith, few c, c.requires.3))

pub slice_bounds-lowest_in-end : goal.slice_bounds-lowest_in-end
slice_bounds-lowest_in-end c = sym (size (goal.at.slice_bounds-lowest_in-end c).After-div_ceil-words)

pub lowest_in-first-requires : goal.lowest_in-first-requires
lowest_in-first-requires c = omega (arith, size (goal.at.lowest_in-first-requires c).After-div_ceil-words, few (goal.at.lowest_in-first-requires c).After-div_ceil-words)

pub overflow_cast-result : goal.overflow_cast-result
overflow_cast-result c = omega (arith, c.if-first-until.true, few (goal.at.overflow_cast-result c).After-div_ceil-words)

pub returns-then-first-until : goal.returns-then-first-until
returns-then-first-until c =
    let a = c.args in
    let pre = c.requires in
    let list = list_number a.list in
    let found = c.lowest_in-first in
    let words = c.div_ceil-words.result in
    record { answer = stood_refused list a.n a.lines.now a.until pre.1 (take words a.again.now) (part_marks a.until a.lines.now a.again.now words (omega arith) pre.2) found.result (64 * length (take words a.again.now)) (omega (arith, size (goal.at.returns-then-first-until c).After-div_ceil-words)) found.ensures.lowest (omega (arith, c.if-first-until.true)) }

pub returns-then-until-lines : goal.returns-then-until-lines
returns-then-until-lines c =
    let a = c.args in
    let pre = c.requires in
    let list = list_number a.list in
    let found = c.lowest_in-first in
    let words = c.div_ceil-words.result in
    let l = c.line_at.ensures.ends in
    record { answer = (rw (l.0, l.1) at c.judge_ends.ensures.answer) ∙ ends_refused list a.n a.lines.now a.until pre.1 (take words a.again.now) (part_marks a.until a.lines.now a.again.now words (omega arith) pre.2) found.result (64 * length (take words a.again.now)) (omega (arith, size (goal.at.returns-then-until-lines c).After-div_ceil-words)) found.ensures.lowest (omega (arith, c.if-first-until.false)) c.if-until-lines.true }

pub returns : goal.returns
returns c =
    let a = c.args in
    let pre = c.requires in
    let list = list_number a.list in
    let found = c.lowest_in-first in
    let words = c.div_ceil-words.result in
    record { answer = none_refused list a.n a.lines.now a.until pre.1 (take words a.again.now) (part_marks a.until a.lines.now a.again.now words (omega arith) pre.2) found.result (64 * length (take words a.again.now)) (omega (arith, size (goal.at.returns c).After-div_ceil-words)) found.ensures.lowest (omega (arith, c.if-first-until.false)) c.if-until-lines.false }
