use Rattle.state_memo.proofs.Joining.{IsSumOf-joined}
use Rattle.state_memo.proofs.laws.law_sums.Goals as goal

pub returns : goal.returns
returns c = record { joined = IsSumOf-joined }
