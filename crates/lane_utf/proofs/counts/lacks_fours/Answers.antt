use Rattle.std.proofs.Common.{◌-◌, arith, length, ltb-false, ltb-true, nat_lt}
use Rattle.lane_utf.proofs.Measures.{below_joined, units-scalars}
use Rattle.lemmas.proofs.Bools.{by_test}
use Rattle.lane_utf.proofs.counts.lacks_fours.Goals as goal

pub parts-preserved : goal.parts-preserved
parts-preserved c = (
  omega arith,
  λ k from to.
      by_test (nat_lt k c.parts.at) (λ t. c.parts.invariant.1 k from (ltb-true k c.parts.at t))
      (λ t. c.are_below_four.ensures c.if-not-are_below_four.false k (ltb-false k c.parts.at t) to),
)

pub returns : goal.returns
returns c last =
    let bytes = c.args.bytes.now in
    units-scalars bytes (below_joined bytes c.parts.at (length bytes - 128) c.parts.invariant.1 (c.are_below_four-2.ensures last) (omega arith) (omega arith))
