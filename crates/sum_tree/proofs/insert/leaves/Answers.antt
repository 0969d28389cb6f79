use Rattle.std.proofs.Common.{[], ◌∷◌, refl}
use Rattle.sum_tree.proofs.Totals.{summable_front, summable_back}
use Rattle.sum_tree.proofs.insert.leaves.Goals as goal

pub close-requires-clause-summable : goal.close-requires-clause-summable
close-requires-clause-summable g c =
    summable_front g.met.S.Summary.laws g.T.Summed.sum_of g.met.S.Summary.fits_left (c.args.first ∷ c.args.second ∷ []) (c.args.first ∷ [])
    (c.args.second ∷ []) refl c.requires

pub close-requires-2-clause-summable : goal.close-requires-2-clause-summable
close-requires-2-clause-summable g c =
    summable_back g.met.S.Summary.laws g.T.Summed.sum_of g.met.S.Summary.fits_right (c.args.first ∷ c.args.second ∷ []) (c.args.first ∷ [])
    (c.args.second ∷ []) refl c.requires
