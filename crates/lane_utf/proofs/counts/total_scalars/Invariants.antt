use Rattle.std.proofs.Common.{length, ◌-◌}
use Rattle.lane_ascii.specs.Leads.{one_lead}
use Rattle.lane_utf.proofs.UnitSums.{IsSum}
use Rattle.lane_utf.proofs.counts.total_scalars.Given as goal

abbrev pub invariant-parts : goal.invariant-parts
invariant-parts l = IsSum one_lead l.bytes 0 l.at l.sum

abbrev pub decreases-parts : goal.decreases-parts
decreases-parts l = length l.bytes - l.at
