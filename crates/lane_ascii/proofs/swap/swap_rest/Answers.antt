use Rattle.std.proofs.Common.{◌+◌, sym, ap, ◌∙◌, arith}
use Rattle.lane_ascii.{specs.Pairs.swapped_from, proofs.Swaps.pair_stored, proofs.Swaps.none_left}
use Rattle.lane_ascii.proofs.swap.swap_rest.Goals as goal

pub pairs-preserved : goal.pairs-preserved
pairs-preserved c =
    (omega arith, ap (swapped_from (c.pairs.at + 2)) c.swap.ensures.after ∙ pair_stored c.pairs.bytes c.pairs.at (omega arith) ∙ c.pairs.invariant.1)

pub returns : goal.returns
returns c = sym (none_left c.pairs.bytes c.pairs.at (omega arith)) ∙ c.pairs.invariant.1
