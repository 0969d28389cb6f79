use Rattle.std.proofs.Common.{◌∙◌, map-id}
use Rattle.lane_utf.proofs.UnitRuns.{small_parts}
use Rattle.lane_utf.proofs.unit_runs.part_of.Goals as goal

pub overflow_cast-result : goal.overflow_cast-result
overflow_cast-result g c = small_parts c.args.lanes _ c.args.shift c.args.mask c.args.mark c.requires.byte c.bits_of.ensures

pub returns : goal.returns
returns g c = map-id _ ∙ c.bits_of.ensures
