-- `programs::say_with` meets its contract. The fronts of the two buffers are the file's lines and starts, so what is written of the network
-- is what is written of the file. Assumes nothing.
use Prim.Native.Nat.{◌*◌, ◌/◌}
use mathlib.Core.Path.{◌≡◌, sym, ◌∙◌}
use native.Mathlib.Omega.{arith}
use lib.ListN.{length, take, length-replicate}
use lib.Seq.{length-take-le}
use Rattle.reading.specs.Answers.{facts_of}
use Rattle.reading.specs.Files.{Formed, ReadInto}
use Rattle.reading.proofs.Files.{read_formed}
use Rattle.reading.proofs.Into.{copied_into}
use Rattle.programs.specs.Keep.{read_text, keep_output}
use Rattle.programs.specs.Weak.{weak_read_text, weak_output}
use Rattle.programs.proofs.say_with.Given as given
use Rattle.programs.proofs.say_with.Goals as goal
use Rattle.programs.proofs.say_with.Goals.{After-copy_network, Start}

-- what the bytes are, from the start
module _ (g : given.Over) (c : Start g) where
  formed : Formed c.args.bytes.now (facts_of c.args.found)
  formed = read_formed c.args.bytes.now (facts_of c.args.found) c.requires.found

-- and what the buffers hold, once it was copied
module _ (g : given.Over) (c : After-copy_network g) where
  known : ReadInto c.args.bytes.now (facts_of c.args.found) c.copy_network.new.lines c.copy_network.new.starts
  known = copied_into _ _ c.requires.found c.copy_network.ensures.lines c.copy_network.ensures.starts

  size : length (take (2 * c.args.found.counts.lines) c.copy_network.new.lines) ≡ 2 * c.args.found.counts.lines
  size =
      let room : length c.copy_network.new.lines ≡ g.row.NUMBERS = c.copy_network.auto.lines ∙ length-replicate _ _ in
      length-take-le (2 * c.args.found.counts.lines) c.copy_network.new.lines (omega (arith, c.requires.room.0, c.requires.room.1, room))

pub copy_network-requires : goal.copy_network-requires
copy_network-requires g c =
    let f = formed g (goal.at.copy_network-requires g c).Start in
    (omega (arith, f.size), f.few_lines, f.few_starts, simp length-replicate (omega (arith, c.requires.room.0, c.requires.room.1)), f.few_starts)

pub slice_bounds-starts-end : goal.slice_bounds-starts-end
slice_bounds-starts-end g c = omega (arith, (known g (goal.at.slice_bounds-starts-end g c).After-copy_network).few_starts, c.copy_network.auto.starts)

pub slice_bounds-keep_network-end-in-Keep : goal.slice_bounds-keep_network-end-in-Keep
slice_bounds-keep_network-end-in-Keep g c = sym (length-take-le c.args.found.counts.starts c.copy_network.new.starts (omega (arith, (known g (goal.at.slice_bounds-keep_network-end-in-Keep g c).After-copy_network).few_starts, c.copy_network.auto.starts)))

pub keep_network-requires : goal.keep_network-requires
keep_network-requires g c =
    let s = size g (goal.at.keep_network-requires g c).After-copy_network in
    let few = (known g (goal.at.keep_network-requires g c).After-copy_network).few_lines in
    (length-take-le c.args.found.counts.lines _ (simp length-replicate c.requires.room.0) ∙ omega (arith, s), omega (arith, s, few), rw c.in-Keep.is at c.requires.room.2)

pub weak_network-requires : goal.weak_network-requires
weak_network-requires g c = rw c.in-Weak.is at c.requires.room.2

pub returns-in-Keep : goal.returns-in-Keep
unfolding keep_output read_text
returns-in-Keep g c =
    let r = known g (goal.at.returns-in-Keep g c).After-copy_network in
    let w = c.keep_network.ensures in
    record { answer = rw (c.in-Keep.is, r.read, ← r.lines_part, ← r.starts_part) w.answer; text = rw (c.in-Keep.is, r.read, ← r.lines_part, ← r.starts_part) w.text }

pub returns-in-Weak : goal.returns-in-Weak
unfolding weak_output weak_read_text
returns-in-Weak g c =
    let r = known g (goal.at.returns-in-Weak g c).After-copy_network in
    let w = c.weak_network.ensures in
    let count : length (take (2 * c.args.found.counts.lines) c.copy_network.new.lines) / 2 ≡ c.args.found.counts.lines = omega (arith, size g (goal.at.returns-in-Weak g c).After-copy_network) in
    record { answer = rw (c.in-Weak.is, r.read, ← r.lines_part) (rw count at w.answer); text = rw (c.in-Weak.is, r.read, ← r.lines_part) (rw count at w.text) }
