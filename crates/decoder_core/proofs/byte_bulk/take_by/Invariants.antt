use Rattle.std.proofs.Common.{◌-◌}
use Rattle.decoder_core.{specs.declared.bulk.Stride.TheVariants.Bytes, proofs.Fronts.IsTaken}
use Rattle.decoder_core.proofs.byte_bulk.take_by.Given as goal

abbrev pub invariant-bytes : goal.invariant-bytes
invariant-bytes g l = IsTaken (g.met.H.Handler.ends l.handler) l.state 4 Bytes l.bytes l.text l.taken l.written

abbrev pub decreases-bytes : goal.decreases-bytes
decreases-bytes g l = l.end - l.taken
