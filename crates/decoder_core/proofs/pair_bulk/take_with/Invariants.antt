use Rattle.std.proofs.Common.{◌-◌}
use Rattle.decoder_core.{specs.declared.bulk.Stride.TheVariants.Pairs, proofs.Fronts.IsTaken}
use Rattle.decoder_core.proofs.pair_bulk.take_with.Given as goal

abbrev pub invariant-pairs : goal.invariant-pairs
invariant-pairs g l = IsTaken (g.met.H.Handler.ends l.handler) l.state 2 Pairs l.bytes l.text l.taken l.written

abbrev pub decreases-pairs : goal.decreases-pairs
decreases-pairs g l = l.last - l.taken
