use Rattle.sum_tree.proofs.build.+gathered.Given as goal

abbrev pub decreases-gathered : goal.decreases-gathered
decreases-gathered g l = l.height
