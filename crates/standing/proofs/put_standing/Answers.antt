-- `standing::put_standing` meets its contract. Both arms rewrite by what was found. Assumes nothing.
use Rattle.standing.proofs.put_standing.Goals as goal

pub returns-in-None : goal.returns-in-None
returns-in-None c = record { put = rw c.in-None.is c.put_word.ensures.put }

pub returns-in-Some : goal.returns-in-Some
returns-in-Some c = record { put = rw c.in-Some.is c.put_weak.ensures.put }
