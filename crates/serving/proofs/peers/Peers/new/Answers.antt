use Rattle.std.proofs.Common.{refl}
use Rattle.serving.proofs.Acting as acting
use Rattle.serving.proofs.peers.Peers.new.Goals as goal

pub returns : goal.returns
returns c = record { seated = λ h empty. acting.seated_none _ h refl empty; none = acting.none_there _ refl }
