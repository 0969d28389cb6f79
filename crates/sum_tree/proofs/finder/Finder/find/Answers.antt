use Rattle.std.proofs.Common.{subst, option_copied}
use Rattle.sum_tree.specs.Reached.{IsFound}
use Rattle.sum_tree.proofs.finder.Finder.find.Goals as goal

pub returns-clause-place : goal.returns-clause-place
returns-clause-place g c =
    subst (λ l. IsFound (g.D.Dimension.measure c.args.dimension.now) c.args.target g.S.Summary.empty g.S.Summary.op g.T.Summed.sum_of l
    c.search-sum.result.1 (option_copied c.search-sum.result.2)) c.self.view_is c.search-sum.ensures.found.found
