use Rattle.decoder_core.proofs.Turning.{escape-fed, if-some}
use Rattle.decoder_core.proofs.turns.AnyDecoder.escape.Goals as goal

pub returns : goal.returns
returns g c = if-some (λ e held. escape-fed (g.met.H.Handler.ends c.args.self.now) c.args.state e.state c.args.bytes.now held) c.escape.result c.escape.ensures
