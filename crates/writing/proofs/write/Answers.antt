-- `writing::write` meets its contract: a request that is in order has numbers that fit, and its bytes have room. Assumes nothing.
use mathlib.Core.Path.{◌≡◌, sym, ap}
use mathlib.Core.Bool.{false}
use borrow.Author.Tests.{ltb-false}
use lib.Dec.{ltb}
use lib.ListN.{length}
use Rattle.kinds.specs.Answers.{is_refused}
use Rattle.request.specs.Judging.{request_judged}
use Rattle.request.proofs.Judging.{request_good}
use Rattle.writing.specs.Writing.{file_length}
use Rattle.writing.proofs.write.Goals as goal

pub write_file-requires : goal.write_file-requires
write_file-requires c =
    let a = c.args in
    let short = ltb (length a.bytes.now) (file_length a.lines.now a.starts.now) in
    let passed : is_refused (request_judged a.n a.level.0 a.lines.now a.starts.now short) ≡ false = rw c.is_short-short.ensures.short at (ap is_refused (sym c.in_ok-judge_request.ensures.answer)) in
    let good = request_good a.n a.level.0 a.lines.now a.starts.now short passed in
    (good.sized.within.most, good.sized.most, good.sized.within.few, ltb-false (length a.bytes.now) (file_length a.lines.now a.starts.now) good.sized.room)
