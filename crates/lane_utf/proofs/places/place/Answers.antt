use Rattle.std.proofs.Common.{◌∙◌, arith}
use Rattle.lane_utf.proofs.Passing.{past_block}
use Rattle.lane_utf.proofs.places.place.Goals as goal

pub whole-preserved : goal.whole-preserved
whole-preserved g c = record {
  within = omega arith;
  same = past_block g.M.Measure.weight c.args.bytes.now c.whole.at 64 c.whole.left _ (omega arith) c.of_64-block.ensures
      c.if-block-left.false ∙ c.whole.invariant.same;
}
