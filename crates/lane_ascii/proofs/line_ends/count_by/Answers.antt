use Rattle.std.proofs.Common.{arith}
use Rattle.lane_ascii.proofs.{Counting.counted-le, Counting.counted_more, Counting.counted_all, Counting.counted_on, MarkLanes.marks-le}
use Rattle.lane_ascii.proofs.line_ends.count_by.Goals as goal

pub overflow_add-count : goal.overflow_add-count
overflow_add-count g c = omega (arith, counted-le (counted_on c.parts.invariant 128 (omega arith) (c.marks_in_128-count.ensures c.args.after_cr)))

pub parts-preserved : goal.parts-preserved
parts-preserved g c = counted_on c.parts.invariant 128 (omega arith) (c.marks_in_128-count.ensures c.args.after_cr)

pub overflow_add-count-in-steps : goal.overflow_add-count-in-steps
overflow_add-count-in-steps g c = omega (arith, counted-le (counted_more c.steps.invariant g.row.N (omega arith) (c.marks_in.ensures c.args.after_cr)))

pub steps-preserved : goal.steps-preserved
steps-preserved g c = counted_more c.steps.invariant g.row.N (omega arith) (c.marks_in.ensures c.args.after_cr)

pub overflow_add-result : goal.overflow_add-result
overflow_add-result g c =
    omega (arith, counted_all c.steps.invariant (c.marks_left.ensures c.args.after_cr), marks-le c.args.after_cr c.args.bytes.now)

pub returns : goal.returns
returns g c = counted_all c.steps.invariant (c.marks_left.ensures c.args.after_cr)
