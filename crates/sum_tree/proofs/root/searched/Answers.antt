use Rattle.sum_tree.proofs.Searching.{reach_root, searched_some, searched_none}
use Rattle.sum_tree.proofs.root.searched.Goals as goal

pub find-k-requires-clause-fit : goal.find-k-requires-clause-fit
find-k-requires-clause-fit g c = reach_root g.met.S.Summary.laws g.T.Summed.sum_of _ _ c.unit.ensures c.requires

pub returns-then-target-of-clause-found : goal.returns-then-target-of-clause-found
returns-then-target-of-clause-found g c = searched_some g.met.S.Summary.laws g.T.Summed.sum_of _ _ _ _ _ _ _ c.unit.ensures c.find-k.ensures.found

pub returns-else-target-of-clause-found : goal.returns-else-target-of-clause-found
returns-else-target-of-clause-found g c =
    searched_none (g.D.Dimension.measure c.args.dimension.now) c.args.target _ _ _ _ _ _ _ c.total-all.ensures c.of.ensures
    c.if-target-of.false c.count-else-target-of.ensures
