use Rattle.std.proofs.Common.{◌%◌, ◌^◌, ◌∙◌, ap, take}
use Rattle.lane_ascii.proofs.Flags.{mask-take, ones_of}
use Rattle.lane_ascii.proofs.bits.ones_before.Goals as goal

pub returns : goal.returns
returns c flags is = ones_of (take c.args.count flags) (c.low_bits.ensures ∙ ap (λ m. m % 2 ^ c.args.count) is ∙ mask-take c.args.count flags)
