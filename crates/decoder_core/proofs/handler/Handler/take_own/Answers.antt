use Rattle.decoder_core.proofs.Moving.{nothing_is_own}
use Rattle.decoder_core.proofs.handler.Handler.take_own.Goals as goal

pub returns : goal.returns
returns g c = nothing_is_own (g.met.Self.Handler.ends c.args.self.now) c.args.state c.args.bytes.now
