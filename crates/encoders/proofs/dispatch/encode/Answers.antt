use Rattle.std.proofs.Common.{sym}
use Rattle.encoders.proofs.Choosing.{fit}
use Rattle.encoders.proofs.dispatch.encode.Goals as goal

pub encode_over-requires : goal.encode_over-requires
encode_over-requires c = rw c.in-Some.ensures.lent (fit c.args.indexes.now c.args.encoding (sym c.in-Some.ensures.there))
