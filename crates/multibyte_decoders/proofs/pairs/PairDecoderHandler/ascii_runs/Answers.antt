use Rattle.std.proofs.Common.{refl}
use Rattle.multibyte_decoders.proofs.pairs.PairDecoderHandler.ascii_runs.Goals as goal

pub returns-in-Idle : goal.returns-in-Idle
returns-in-Idle g c = λ b low. let own = g.met.R.PairRules.ascii b low in rw (c.in-Idle.is, own.0, own.1) refl
