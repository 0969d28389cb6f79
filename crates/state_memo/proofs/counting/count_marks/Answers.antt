use Rattle.std.proofs.Common.{ap, ◌∙◌}
use Rattle.lane_ascii.specs.Marks.{marks}
use Rattle.state_memo.proofs.Marks.{marks-bytes}
use Rattle.state_memo.proofs.counting.count_marks.Goals as goal

pub returns : goal.returns
returns c = c.count_line_ends.ensures ∙ ap (marks c.args.after_cr) c.as_bytes.ensures.value ∙ marks-bytes c.args.after_cr c.args.text.now c.utf8.text
