use Rattle.position_map.proofs.{Words.measure, Chains.placed_by}
use Rattle.position_map.proofs.parts.Parts.find_or_tail.Goals as goal

pub returns-clause-place : goal.returns-clause-place
returns-clause-place c = placed_by (measure c.args.axis) c.args.self.now c.args.n _ _ c.tail-tail.result _ c.find.ensures.place c.tail-tail.ensures.tail
    c.unwrap_or.ensures
