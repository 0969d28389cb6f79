use Rattle.std.proofs.Common.{◌+◌, ap, arith, drop, drop-drop, false, length-take, take}
use Rattle.lane_ascii.{specs.Flags.flags_set, specs.Marks.mark_flags, proofs.Flags.set-more, proofs.MarkLanes.ones-sum}
use Rattle.lane_ascii.proofs.line_ends.marks_in_128.Goals as goal

-- each block has 64 marks at most
pub sum_of_lanes-requires : goal.sum_of_lanes-requires
sum_of_lanes-requires c =
    let all = mark_flags false c.args.bytes.now in
    let low = ones-sum (take 64 (drop c.args.at all)) _ (c.marks_at.ensures false) in
    let high = ones-sum (take 64 (drop (c.args.at + 64) all)) _ (c.marks_at-2.ensures false) in
    omega (arith, low.1, high.1, length-take 64 (drop c.args.at all), length-take 64 (drop (c.args.at + 64) all))

pub returns : goal.returns
returns c after_cr =
    let all = mark_flags after_cr c.args.bytes.now in
    let behind = drop c.args.at all in
    let low = ones-sum (take 64 behind) _ (c.marks_at.ensures after_cr) in
    let high = ones-sum (take 64 (drop (c.args.at + 64) all)) _ (c.marks_at-2.ensures after_cr) in
    omega (arith, c.sum_of_lanes.ensures, low.0, high.0, set-more behind 64 64, ap (λ fs. flags_set (take 64 fs)) (drop-drop 64 c.args.at all))
