-- What is left in a buffer whose front was lent on, and what then stands in its front.
-- Assumes nothing.
use Prim.Native.Nat.{ℕ}
use mathlib.Core.Path.{◌≡◌, ◌∙◌}
use mathlib.Core.List.{List, ◌++◌}
use lib.ListN.{length, take, drop}
use lib.Seq.{take_at, drop_at}
use Rattle.kinds.specs.Answers.{Answer, Answer.given}
use Rattle.kept.specs.Kept.{after}

-- The front of `old`, of the length of `new`, was lent on and holds `new`.
pub written : {A : Type 0} (value : A) (new old part : List ℕ) (size : ℕ) → part ≡ new → length part ≡ size → part ++ drop size old ≡ after (given value) new old
unfolding after
written value new old part size e h = rw (← e, h)

-- What stands in the front of a buffer after a call that was not refused.
pub front_written : {A : Type 0} {said : Answer A} {value : A} {new out : List ℕ} {size : ℕ} (old : List ℕ) → said ≡ given value → out ≡ after said new old → length new ≡ size → take size out ≡ new
unfolding after
front_written {new = new} {out = out} {size = size} old e f l =
    let g : out ≡ new ++ drop (length new) old = rw e at f in
    rw g (take_at new (drop (length new) old) size l)

-- Behind it, what stood there before.
pub later_written : {A : Type 0} {said : Answer A} {value : A} {out : List ℕ} {size : ℕ} (new old : List ℕ) → said ≡ given value → out ≡ after said new old → length new ≡ size
    → drop size out ≡ drop size old
unfolding after
later_written {out = out} {size = size} new old e f l =
    let g : out ≡ new ++ drop (length new) old = rw e at f in
    rw g (drop_at new (drop (length new) old) size l ∙ rw l)
