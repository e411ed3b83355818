-- `joined::joined` meets its contract. Fresh arrays have the room that is asked, and no mark is set. Assumes nothing.
use mathlib.Core.Path.{refl}
use Rattle.pieces.proofs.Away.{unmarked_array}
use Rattle.joined.proofs.joined.Goals as goal

pub joined_within-requires : goal.joined_within-requires
joined_within-requires c = (refl, unmarked_array 1024, refl)
