use Rattle.std.proofs.Common.{rules, drop}
use Rattle.line_protocol.proofs.FlatTokens.{point_here}
use Rattle.line_protocol.proofs.request.flat.ranges.point.Goals as goal

pub returns : goal.returns
returns c = (
  (
    point_here (drop c.args.from c.args.text.now) _ _ _ _ _ _ _ _ c.in_ok-first.ensures.0 c.in_ok-line_at.ensures.0 c.in_ok-line.ensures.0
        c.in_ok-second.ensures.0 c.in_ok-character_at.ensures.0
        c.in_ok-character.ensures.0 c.in_ok-end.ensures.0,
    (search rules, search rules),
  ),
  c.in_ok-end.ensures.1,
)
