use Rattle.std.proofs.{Common.take, Common.ap, Common.arith, Common.length-take, lemmas.Bool.cases_Bool}
use Rattle.lane_ascii.{specs.Marks.one_if, proofs.MarkLanes.past_more, proofs.MarkLanes.marks-le}
use Rattle.lane_ascii.proofs.line_ends.count_short.Goals as goal

pub overflow_add-count : goal.overflow_add-count
overflow_add-count c =
    let few = marks-le c.args.after_cr (take c.bytes.byte-index c.args.bytes.now) in
    grind (arith, cases_Bool c.marks_line.result, few, length-take c.bytes.byte-index c.args.bytes.now, c.from-count.ensures)

pub bytes-preserved : goal.bytes-preserved
bytes-preserved c =
    let more = past_more c.args.after_cr c.args.bytes.now c.bytes.byte-index c.bytes.invariant.1 (omega arith) in
    (grind (arith, cases_Bool c.marks_line.result, more.0, c.from-count.ensures, ap one_if c.marks_line.ensures), more.1)
