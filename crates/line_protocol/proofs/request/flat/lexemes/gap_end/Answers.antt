use Rattle.std.proofs.Common.{◌∷◌, [], inl, refl}
use Rattle.line_protocol.proofs.FlatTexts.{byte_here}
use Rattle.line_protocol.proofs.request.flat.lexemes.gap_end.Goals as goal

pub returns-then-line-from-eq32-clause-gap : goal.returns-then-line-from-eq32-clause-gap
returns-then-line-from-eq32-clause-gap c =
    (32 ∷ [], (inl refl, tt), byte_here c.args.line.now c.args.from 32 c.if-from-line.true c.if-line-from-eq32.true)
