use Rattle.piece_rope.proofs.Erring.{chain_laws}
use Rattle.piece_rope.proofs.laws.law_chained.Goals as goal

pub returns : goal.returns
returns c = chain_laws
