use Rattle.std.proofs.Common.{arith}
use Rattle.piece_rope.proofs.fresh.part_of.Goals as goal

pub returns-else-len-clause-small : goal.returns-else-len-clause-small
returns-else-len-clause-small c = omega arith
