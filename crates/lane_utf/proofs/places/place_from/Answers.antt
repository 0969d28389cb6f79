use Rattle.std.proofs.Common.{◌∙◌, arith}
use Rattle.lane_utf.proofs.Passing.{past_block}
use Rattle.lane_utf.proofs.places.place_from.Goals as goal

pub steps-preserved : goal.steps-preserved
steps-preserved g c = record {
  within = omega arith;
  same = past_block g.M.Measure.weight c.args.bytes.now c.steps.at 16 c.steps.left _ (omega arith) c.of_16-step.ensures
      c.if-step-left.false ∙ c.steps.invariant.same;
}
