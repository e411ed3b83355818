-- `neighbours::count_ends` meets its contract. Assumes nothing.
use mathlib.Core.Path.{refl}
use Rattle.neighbours.proofs.Ranks.{sound_ends, counted_room, counted_step}
use Rattle.neighbours.proofs.count_ends.Goals as goal

pub next_entry-requires : goal.next_entry-requires
next_entry-requires c =
    let l = c.loop-end in
    counted_room c.args.network.now.n c.args.network.now.lines.now (sound_ends c.args.network.now.n c.args.network.now.lines.now c.args.network.now.sound) l.end-index c.loop-end-test.true _ refl l.begins l.invariant

pub loop-end-preserved : goal.loop-end-preserved
loop-end-preserved c =
    let l = c.loop-end in
    let r = c.next_entry in
    counted_step c.args.network.now.n c.args.network.now.lines.now (sound_ends c.args.network.now.n c.args.network.now.lines.now c.args.network.now.sound) l.end-index c.loop-end-test.true _ refl l.begins r.new.begins r.ensures.entry l.invariant
