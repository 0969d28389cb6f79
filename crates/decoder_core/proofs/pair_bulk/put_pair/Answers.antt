use Rattle.std.proofs.Common.{sym}
use Rattle.decoder_core.proofs.Fronts.{pair-put}
use Rattle.decoder_core.proofs.pair_bulk.put_pair.Goals as goal

pub returns-clause-some : goal.returns-clause-some
returns-clause-some g c =
    pair-put (g.met.H.Handler.ends c.args.handler.now) c.args.state c.args.bytes.now c.args.text.now _ c.args.at
    c.args.written c.known_pair-form.result c.requires.within c.known_pair-form.ensures (sym c.if-not-is_wide.ensures) c.put.result c.put.ensures.some
