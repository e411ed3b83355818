-- `neighbours::put_line` meets its contract: two ends are laid, one after the other. Assumes nothing.
use native.Mathlib.Omega.{arith}
use Prim.Native.Nat.{ℕ, ◌+◌, ◌*◌}
use mathlib.Core.Path.{◌≡◌, subst}
use Rattle.neighbours.specs.Ranks.{Filled}
use Rattle.neighbours.proofs.Ranks.{sound_ends, filled_room, filled_step}
use Rattle.neighbours.proofs.put_line.Goals as goal

pub put_end-requires : goal.put_end-requires
put_end-requires c =
    let a = c.args in
    filled_room a.network.now.n a.network.now.lines.now (sound_ends c.args.network.now.n c.args.network.now.lines.now c.args.network.now.sound) (2 * a.place.0) (omega (arith, c.requires.0)) _ c.line_at-line.ensures.ends.0 a.begins.now a.near.now c.requires.1

pub put_end-requires-2 : goal.put_end-requires-2
put_end-requires-2 c =
    let a = c.args in
    let r = c.put_end in
    let h = c.line_at-line.ensures.ends in
    filled_room a.network.now.n a.network.now.lines.now (sound_ends c.args.network.now.n c.args.network.now.lines.now c.args.network.now.sound) (2 * a.place.0 + 1) (omega (arith, c.requires.0)) _ h.1 r.new.begins r.new.near
    (filled_step a.network.now.n a.network.now.lines.now (sound_ends c.args.network.now.n c.args.network.now.lines.now c.args.network.now.sound) (2 * a.place.0) (omega (arith, c.requires.0)) _ h.0 (2 * a.place.0 + 1) _ h.1 (λ p e. omega arith) (λ p e. absurd (omega arith)) a.begins.now r.new.begins a.near.now r.new.near r.ensures.begins r.ensures.near c.requires.1)

pub returns : goal.returns
returns c =
    let a = c.args in
    let r = c.put_end in
    let q = c.put_end-2 in
    let h = c.line_at-line.ensures.ends in
    let one = filled_step a.network.now.n a.network.now.lines.now (sound_ends c.args.network.now.n c.args.network.now.lines.now c.args.network.now.sound) (2 * a.place.0) (omega (arith, c.requires.0)) _ h.0 (2 * a.place.0 + 1) _ h.1 (λ p e. omega arith) (λ p e. absurd (omega arith)) a.begins.now r.new.begins a.near.now r.new.near r.ensures.begins r.ensures.near c.requires.1 in
    let two = filled_step a.network.now.n a.network.now.lines.now (sound_ends c.args.network.now.n c.args.network.now.lines.now c.args.network.now.sound) (2 * a.place.0 + 1) (omega (arith, c.requires.0)) _ h.1 (2 * a.place.0) _ h.0 (λ p e. absurd (omega arith)) (λ p e. omega arith) r.new.begins q.new.begins r.new.near q.new.near q.ensures.begins q.ensures.near one in
    let e : 2 * a.place.0 + 1 + 1 ≡ 2 * a.place.0 + 2 = omega arith in
    record { filled = subst (λ (x : ℕ). Filled a.network.now.n a.network.now.lines.now x q.new.begins q.new.near) e two }
