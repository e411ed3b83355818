-- `writing::is_short` meets its contract. Each return compares the room with what the file takes, by the tests that led to it. Assumes
-- nothing.
use Prim.Native.Nat.{◌+◌}
use mathlib.Core.Path.{sym}
use native.Mathlib.Omega.{arith}
use borrow.Author.Tests.{lt-ltb}
use Rattle.writing.proofs.Written.{short_starts}
use Rattle.reading.specs.Reading.{offset_after}
use Rattle.writing.proofs.is_short.Goals as goal

pub returns-then-room-lt10 : goal.returns-then-room-lt10
returns-then-room-lt10 c = record { short = (let a = c.args in sym (lt-ltb a.room (offset_after a.counts.lines a.counts.starts + 4) (omega arith))) }

pub returns-then-left-m : goal.returns-then-left-m
returns-then-left-m c = record { short = (let a = c.args in sym (lt-ltb a.room (offset_after a.counts.lines a.counts.starts + 4) (omega arith))) }

pub returns : goal.returns
returns c = record { short = (let a = c.args in short_starts a.room a.counts.lines a.counts.starts (omega arith) (omega arith)) }
