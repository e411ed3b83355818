-- `neighbours::lay_neighbours` meets its contract: each step leaves what the next one asks. Assumes nothing.
use native.Mathlib.Omega.{arith}
use borrow.Author.Rules.{rules}
use Rattle.neighbours.proofs.Ranks.{sound_ends, counted_none, filled_none, filled_near, filled_bound}
use Rattle.neighbours.proofs.lay_neighbours.Goals as goal

pub count_ends-requires : goal.count_ends-requires
count_ends-requires c =
    let a = c.args in
    counted_none a.network.now.n a.network.now.lines.now c.fill.new.self (omega arith) (λ i l. search rules)

pub sum_counts-requires : goal.sum_counts-requires
sum_counts-requires c = c.count_ends.ensures.counted

pub put_lines-requires : goal.put_lines-requires
put_lines-requires c =
    let a = c.args in
    filled_none a.network.now.n a.network.now.lines.now c.sum_counts.new.begins a.near.now c.requires.1 c.sum_counts.ensures.summed

pub returns : goal.returns
returns c =
    let a = c.args in
    let r = c.put_lines in
    let ends = sound_ends a.network.now.n a.network.now.lines.now a.network.now.sound in record { near = filled_near a.network.now.n a.network.now.lines.now r.new.begins r.new.near ends.even ends.few ends.stations r.ensures.filled; bound = filled_bound a.network.now.n a.network.now.lines.now r.new.begins r.new.near ends.even ends.few ends.stations r.ensures.filled }
