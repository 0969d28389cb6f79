use Rattle.std.proofs.Common.{arith, drop, length-drop, length-take, take}
use Rattle.lane_ascii.proofs.{Counting.counted_more, Counting.counted_all, Counting.mark_in, Flags.nth_in, Flags.nth_behind, MarkLanes.length-flags}
use Rattle.lane_ascii.specs.Marks.{mark_flags}
use Rattle.lane_ascii.proofs.line_ends.nth_by.Goals as goal

pub returns-then-n-before-2 : goal.returns-then-n-before-2
returns-then-n-before-2 g c =
    let flags = mark_flags c.args.after_cr c.args.bytes.now in
    let block = take g.row.N (drop c.steps.at flags) in
    mark_in c.steps.invariant.0 block c.args.n _ c.nth_set.result (λ k. nth_in flags c.steps.at g.row.N k _) c.steps.invariant.1
    (omega (arith, length-take g.row.N (drop c.steps.at flags))) (omega arith) (c.marks_in-mask.ensures c.args.after_cr) c.nth_set.ensures.place

pub steps-preserved : goal.steps-preserved
steps-preserved g c = (counted_more c.steps.invariant.0 g.row.N (omega arith) (c.marks_in-mask.ensures c.args.after_cr), omega arith)

pub returns-then-n-before-3 : goal.returns-then-n-before-3
returns-then-n-before-3 g c =
    let flags = mark_flags c.args.after_cr c.args.bytes.now in
    let few = length-flags c.args.after_cr c.args.bytes.now in
    mark_in c.steps.invariant.0 (drop c.steps.at flags) c.args.n _ c.nth_set-then-n-before-3.result (λ k. nth_behind flags c.steps.at k _) c.steps.invariant.1
    (omega (arith, few, length-drop c.steps.at flags)) (omega arith) (c.marks_left-mask.ensures c.args.after_cr) c.nth_set-then-n-before-3.ensures.place

pub returns-else-n-before-3 : goal.returns-else-n-before-3
returns-else-n-before-3 g c = omega (arith, counted_all c.steps.invariant.0 (c.marks_left-mask.ensures c.args.after_cr))
