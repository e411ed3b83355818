-- `reading::record_after` meets its contract: a record that is not refused is whole and of an allowed kind. Assumes nothing.
use mathlib.Core.Path.{◌≡◌, sym, ap}
use mathlib.Core.Bool.{false}
use native.Mathlib.Omega.{arith}
use Rattle.kinds.specs.Answers.{is_refused}
use Rattle.reading.specs.Reading.{offset_after, record_judged, order_after}
use Rattle.reading.specs.Numbers.{number_at}
use Rattle.reading.proofs.Records.{record_whole, kind_here, kind_end}
use Rattle.reading.proofs.record_after.Goals as goal
use Rattle.reading.proofs.record_after.Goals.{In_ok-judge_record}

-- the record is not refused
whole : (c : In_ok-judge_record) → is_refused (record_judged (order_after c.args.counts.starts) c.args.bytes.now (offset_after c.args.counts.lines c.args.counts.starts)) ≡ false
whole c = rw (c.offset-offset.ensures.offset, c.order.ensures.order) at (ap is_refused (sym c.in_ok-judge_record.ensures.answer))

pub number_at-requires : goal.number_at-requires
number_at-requires c =
    let k = c.args.counts in
    let w = record_whole (order_after k.starts) c.args.bytes.now (offset_after k.lines k.starts) (whole (goal.at.number_at-requires c).In_ok-judge_record) in
    rw c.offset-offset.ensures.offset w.marked

pub counted_record-requires : goal.counted_record-requires
counted_record-requires c =
    let k = c.args.counts in
    let bytes = c.args.bytes.now in
    let w = record_whole (order_after k.starts) bytes (offset_after k.lines k.starts) (whole (goal.at.counted_record-requires c).In_ok-judge_record) in
    (rw (c.number_at.ensures.number, c.offset-offset.ensures.offset) (kind_end (kind_here k.starts (number_at bytes (offset_after k.lines k.starts)) w.allowed)), omega arith)
