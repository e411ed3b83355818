-- `reading::read_file` meets its contract: where NW is not refused, its six bytes are there. Assumes nothing.
use mathlib.Core.Path.{sym, ap}
use Rattle.kinds.specs.Answers.{is_refused}
use Rattle.reading.proofs.Records.{first_whole}
use Rattle.reading.proofs.read_file.Goals as goal

pub read_records-requires : goal.read_records-requires
read_records-requires c = (first_whole c.args.bytes.now (ap is_refused (sym c.in_ok-judge_record.ensures.answer))).1
