use Rattle.std.proofs.lemmas.Bool.{eqb-true}
use Rattle.lane_ascii.proofs.Narrows.{all_pairs}
use Rattle.lane_ascii.proofs.narrowing.is_ascii.Goals as goal

pub returns-clause-pairs : goal.returns-clause-pairs
returns-clause-pairs c is = (all_pairs 32 c.args.lanes c.fits-lanes.0 c.fits-lanes.1 (eqb-true _ 0 is)).0

pub returns-clause-ascii : goal.returns-clause-ascii
returns-clause-ascii c is = (all_pairs 32 c.args.lanes c.fits-lanes.0 c.fits-lanes.1 (eqb-true _ 0 is)).1
