use Rattle.std.proofs.{Common.sym, Common.◌∙◌, lemmas.Simd.pick_l_left}
use Rattle.lane_ascii.proofs.Narrows.{picked, places}
use Rattle.lane_ascii.proofs.narrowing.low_bytes.Goals as goal

pub returns : goal.returns
returns c =
    pick_l_left 0 c.args.lanes c.args.lanes 64 (places 0 32) c.fits-lanes.0 tt ∙ picked c.args.lanes 32 0 (sym c.fits-lanes.0)
