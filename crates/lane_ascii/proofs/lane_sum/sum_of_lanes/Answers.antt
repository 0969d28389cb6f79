use Rattle.std.proofs.Common.{◌+◌, ◌∙◌, arith, sym, w8}
use Rattle.std.proofs.lemmas.Simd.{adds_fit, fold-sum, sum-zip2, sum_fits}
use Rattle.lane_ascii.proofs.lane_sum.sum_of_lanes.Goals as goal
use lib.Lanes.{zip2}

pub overflow_add-first : goal.overflow_add-first
overflow_add-first g c = adds_fit w8 c.args.first c.args.second c.requires

pub overflow_add-first-2 : goal.overflow_add-first-2
overflow_add-first-2 g c = sum_fits w8 0 (zip2 (λ a b. a + b) c.args.first c.args.second)
    (omega (arith, c.requires, sum-zip2 c.args.first c.args.second (c.fits-first.0 ∙ sym c.fits-second.0)))

pub returns : goal.returns
returns g c =
    omega (
      arith,
      c.from.ensures,
      fold-sum 0 (zip2 (λ a b. a + b) c.args.first c.args.second),
      sum-zip2 c.args.first c.args.second (c.fits-first.0 ∙ sym c.fits-second.0),
    )
