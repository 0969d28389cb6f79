use Rattle.codec.proofs.ItemCounts.{items_are_at_most_bytes}
use Rattle.codec.proofs.laws.law_items_are_at_most_bytes.Goals as goal

pub returns : goal.returns
returns c = items_are_at_most_bytes
