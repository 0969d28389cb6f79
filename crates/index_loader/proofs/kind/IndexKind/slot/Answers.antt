use Rattle.std.proofs.Common.{rules}
use Rattle.index_loader.proofs.{Prelude.slot_of, SlotLemmas.slot-small}
use Rattle.index_loader.proofs.kind.IndexKind.slot.Goals as goal

pub returns-clause-bound : goal.returns-clause-bound
unfolding slot_of
returns-clause-bound c = slot-small c.args.self c.place_of.result (search rules)
