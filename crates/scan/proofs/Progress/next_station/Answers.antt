-- `scan::Progress::next_station` meets its contract. Where no marked station is unscanned, the lowest that is unmarked is next: the sets
-- have room for more than n. Assumes nothing.
use Prim.Native.Nat.{◌*◌}
use mathlib.Core.Path.{◌∙◌}
use native.Mathlib.Omega.{arith}
use lib.ListN.{length}
use Rattle.scan.proofs.Next.{next_fresh}
use Rattle.scan.proofs.Progress.next_station.Goals as goal

pub returns-then-fresh-n : goal.returns-then-fresh-n
returns-then-fresh-n c =
    let s = c.args.self.now in
    record { next = (c.lowest_out-fresh.ensures.lowest ∙ next_fresh c.args.n (64 * length s.marked) (omega arith) s.marked s.scanned (omega arith) (omega arith), c.if-fresh-n.true) }
