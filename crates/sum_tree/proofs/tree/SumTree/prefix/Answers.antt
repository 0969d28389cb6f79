use Rattle.std.proofs.Common.{ap, arith}
use Rattle.sum_tree.proofs.Levels.{few_levels}
use Rattle.sum_tree.proofs.tree.SumTree.prefix.Goals as goal

pub returns-in-Some-clause-most : goal.returns-in-Some-clause-most
returns-in-Some-clause-most g c = λ d few.
    let levels = few_levels _ _ _ d (ap (λ r. r.items) c.self.view_is) c.in-Some.is c.self.invariant.sound few in
    omega arith
