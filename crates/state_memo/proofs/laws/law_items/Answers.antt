use Rattle.state_memo.proofs.Walks.{errors-few, item-within}
use Rattle.state_memo.proofs.laws.law_items.Goals as goal

pub returns : goal.returns
returns c = record { sparse = errors-few; within = item-within }
