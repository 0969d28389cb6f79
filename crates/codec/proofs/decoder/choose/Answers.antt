use Rattle.codec.proofs.Choosing.{absent}
use Rattle.codec.proofs.decoder.choose.Goals as goal

pub returns-in_err-of : goal.returns-in_err-of
returns-in_err-of c = rw c.from_residual.ensures (absent c.args.indexes.now c.args.setting c.in_err-of.ensures.there)
