use Rattle.lane_ascii.proofs.Flags.{in_lower, in_upper}
use Rattle.lane_ascii.proofs.bits.halve.Goals as goal

pub returns-then-sought-below-clause-half : goal.returns-then-sought-below-clause-half
returns-then-sought-below-clause-half c flags n h = in_lower flags n c.args.width _ c.args.sought h c.low_bits-low.ensures c.if-sought-below.true

pub returns-clause-half : goal.returns-clause-half
returns-clause-half c flags n h = in_upper flags n c.args.width _ c.args.sought h c.low_bits-low.ensures c.if-sought-below.false
