use Rattle.std.proofs.{Common.ℕ, Common.◌-◌, Common.ap, Common.◌∙◌, Common.bit_and, lemmas.Nat.one_shl, lemmas.Nat.and_mask}
use Rattle.lane_ascii.proofs.bits.low_bits.Goals as goal

pub returns : goal.returns
returns c = ap (λ (m : ℕ). bit_and c.args.bits (m - 1)) (one_shl c.args.width 64 c.requires) ∙ and_mask c.args.bits c.args.width
