-- `weakness::search_network` meets its contract. Pruning keeps no more lines than there are, nor more than 3 for each station but one.
-- Assumes nothing.
use native.Mathlib.Omega.{arith}
use Prim.Native.Nat.{◌+◌, ◌*◌, ◌/◌, ◌≤◌}
use lib.ListN.{length}
use Rattle.kept.specs.Kept.{kept_count}
use Rattle.weakness.specs.FromZero.{ranks_made}
use Rattle.weakness.specs.Spots.{Searchable}
use Rattle.weakness.proofs.Pruned.{kept_all, kept_few}
use Rattle.weakness.proofs.search_network.Goals as goal

pub search_within-requires-clause-room : goal.search_within-requires-clause-room
search_within-requires-clause-room c =
    let net = c.args.network.now in
    let k = c.args.level.0 in
    let searchable : Searchable net.n k net.lines.now = record { sound = net.sound; some = c.requires.0; most = c.requires.1 } in
    let room : (length net.lines.now / 2 ≤ 256) × (2 * kept_count (ranks_made net.n k net.lines.now) ≤ 512) × (net.n + 1 ≤ 65) × (net.n ≤ 64) =
    (omega arith, omega (arith, kept_all searchable), omega arith, omega arith) in
    room

pub search_within-requires-2-clause-room : goal.search_within-requires-2-clause-room
search_within-requires-2-clause-room c =
    let net = c.args.network.now in
    let k = c.args.level.0 in
    let searchable : Searchable net.n k net.lines.now = record { sound = net.sound; some = c.requires.0; most = c.requires.1 } in
    let within = net.sound.within in
    let room : (length net.lines.now / 2 ≤ 8192) × (2 * kept_count (ranks_made net.n k net.lines.now) ≤ 6144) × (net.n + 1 ≤ 1025) × (net.n ≤ 1024) =
    (omega (arith, within.few), kept_few searchable, omega (arith, within.most), within.most) in
    room
