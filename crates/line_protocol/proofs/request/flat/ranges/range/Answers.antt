use Rattle.std.proofs.Common.{drop}
use Rattle.line_protocol.proofs.FlatTokens.{range_here}
use Rattle.line_protocol.proofs.request.flat.ranges.range.Goals as goal

pub returns : goal.returns
returns c = (
  (
    range_here (drop c.args.from c.args.text.now) _ _ _ _ _ _ _ _ c.in_ok-first.ensures.0 c.in_ok-start_at.ensures.0
        c.in_ok-start.ensures.0.0 c.in_ok-second.ensures.0 c.in_ok-end_at.ensures.0
        c.in_ok-end.ensures.0.0 c.in_ok-closed.ensures.0,
    c.in_ok-start.ensures.0.1,
    c.in_ok-end.ensures.0.1,
  ),
  c.in_ok-closed.ensures.1,
)
