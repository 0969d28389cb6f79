use Rattle.sum_tree.proofs.Searching.{first_above}
use Rattle.sum_tree.proofs.tree.SumTree.seek.Goals as goal

pub returns-clause-place : goal.returns-clause-place
returns-clause-place g c =
    first_above g.met.S.Summary.laws g.T.Summed.sum_of (g.D.Dimension.measure c.args.dimension.now) c.args.target
    (g.met.D.Dimension.monotone c.args.dimension.now) _ _ _ _ c.search-k.ensures.found
