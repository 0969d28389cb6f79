use Rattle.std.proofs.Common.{sym, ap, ◌∙◌, arith}
use Rattle.lane_ascii.{specs.Marks.one_if, proofs.MarkLanes.past_more}
use Rattle.lane_ascii.proofs.line_ends.nth_short.Goals as goal
use Rattle.lane_ascii.proofs.line_ends.nth_short.Goals.{then-marks_line+else-left-eq0, else-marks_line}

pub bytes-preserved : goal.bytes-preserved
bytes-preserved c =
    let more = past_more c.args.after_cr c.args.bytes.now c.bytes.at c.bytes.invariant.1 (omega arith) in (
      elim c.if-marks_line.branch [
        | then-marks_line+else-left-eq0 w ↦ omega (arith, more.0, ap one_if (sym w.if-marks_line.true ∙ c.marks_line.ensures))
        | else-marks_line w ↦ omega (arith, more.0, ap one_if (sym w.if-marks_line.false ∙ c.marks_line.ensures))
      ],
      more.1,
    )
