use Rattle.std.proofs.Common.{refl}
use Rattle.lane_ascii.proofs.Swaps.{block_stored}
use Rattle.lane_ascii.proofs.swap.swap_32.Goals as goal

pub returns-clause-swapped : goal.returns-clause-swapped
returns-clause-swapped c = block_stored c.args.bytes.now c.args.at 32 16 refl c.requires tt
