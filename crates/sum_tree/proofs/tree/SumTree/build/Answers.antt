use Rattle.sum_tree.proofs.tree.SumTree.build.Goals as goal

pub returns-clause-list : goal.returns-clause-list
returns-clause-list g c = c.fill.ensures.items
