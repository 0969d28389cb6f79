use Rattle.std.proofs.Common.{◌/◌, ◌^◌, ap, ◌∙◌, drop}
use Rattle.lane_ascii.proofs.Flags.{ones_of, mask-drop}
use Rattle.lane_ascii.proofs.bits.ones_behind.Goals as goal

pub returns : goal.returns
returns c flags is = ones_of (drop c.args.skipped flags) (ap (λ m. m / 2 ^ c.args.skipped) is ∙ mask-drop c.args.skipped flags)
