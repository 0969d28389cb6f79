use Rattle.position_map.proofs.{Words.errors_in_sum, Chains.placed_by}
use Rattle.position_map.proofs.parts.Parts.find_error.Goals as goal

pub returns-clause-place : goal.returns-clause-place
returns-clause-place c = placed_by errors_in_sum c.args.self.now c.args.n _ _ c.tail-tail.result _ c.find_with_error.ensures.place c.tail-tail.ensures.tail
    c.unwrap_or.ensures
