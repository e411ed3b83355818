-- `weakness::search_within` meets its contract. The front of the copy is the kept lines, and these have the whole list's weak spot.
-- Assumes nothing.
use native.Mathlib.Omega.{arith}
use Prim.Native.Nat.{◌*◌}
use mathlib.Core.Path.{◌≡◌, sym, ◌∙◌}
use lib.ListN.{take, length-replicate}
use Rattle.certificate.specs.Starts.{pruned_lines}
use Rattle.weakness.specs.FromZero.{from_zero}
use Rattle.weakness.specs.Spots.{Searchable}
use Rattle.weakness.proofs.Pruned.{pruned_sound, pruned_weak_spot, front_copied}
use Rattle.weakness.proofs.search_within.Given as given
use Rattle.weakness.proofs.search_within.Goals as goal
use Rattle.weakness.proofs.search_within.Goals.{After-copy_kept}

module _ (g : given.Over) (c : After-copy_kept g) where
  searchable : Searchable c.args.network.now.n c.args.level.0 c.args.network.now.lines.now
  searchable = record { sound = c.args.network.now.sound; some = c.requires.level.0; most = c.requires.level.1 }

  -- the front of the copy is the kept lines
  copied : take (2 * c.rank_lines-size.result) c.copy_kept.new.room ≡ pruned_lines c.args.network.now.n c.args.level.0 c.args.network.now.lines.now (from_zero c.args.level.0)
  copied =
      let r = c.rank_lines-size.ensures in
      rw r.count (front_copied searchable _ r.ranks (simp length-replicate (omega (arith, c.requires.room.1))) c.copy_kept.ensures.allowed)

pub invariant_of-pruned : goal.invariant_of-pruned
invariant_of-pruned g c =
    let there = (goal.at.invariant_of-pruned g c).After-copy_kept in
    record { sound = rw (copied g there) (pruned_sound (searchable g there)) }

pub returns : goal.returns
returns g c =
    let there = (goal.at.returns g c).After-copy_kept in
    record { found = c.search.ensures.found ∙ rw (copied g there) (sym (pruned_weak_spot (searchable g there))) }
