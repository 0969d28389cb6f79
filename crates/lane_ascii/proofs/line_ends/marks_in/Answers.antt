use Rattle.std.proofs.Common.{arith, drop, length-drop, length-take, take}
use Rattle.lane_ascii.{specs.Marks.mark_flags, proofs.MarkLanes.length-flags, proofs.MarkLanes.mask_of_ones}
use Rattle.lane_ascii.proofs.line_ends.marks_in.Goals as goal

pub returns : goal.returns
returns g c after_cr =
    let flags = mark_flags after_cr c.args.bytes.now in
    let behind = drop c.args.at flags in
    mask_of_ones (take g.row.N behind) _ g.row.N (c.marks_at-marks.ensures after_cr)
    (omega (arith, length-take g.row.N behind, length-drop c.args.at flags, length-flags after_cr c.args.bytes.now, c.requires.room)) c.requires.few
