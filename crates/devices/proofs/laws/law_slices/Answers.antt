use Rattle.devices.proofs.Slices.{front_more, front_rest, lent_within}
use Rattle.devices.proofs.laws.law_slices.Goals as goal

pub returns : goal.returns
returns c = record { more = front_more; rest = front_rest; within = lent_within }
