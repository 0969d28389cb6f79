use Rattle.std.proofs.Common.{length, ap, sym, ◌∙◌, arith}
use Rattle.sum_tree.{specs.Sums.total, specs.Listed.items_in, proofs.Levels.few_levels, proofs.Searching.searched_none}
use Rattle.sum_tree.proofs.tree.SumTree.search.Goals as goal

pub returns-in-Some-clause-most : goal.returns-in-Some-clause-most
returns-in-Some-clause-most g c = λ d few.
    let levels = few_levels _ _ _ d (ap (λ r. r.items) c.self.view_is) c.in-Some.is c.self.invariant.sound few in
    omega arith

pub returns-in-None-clause-found : goal.returns-in-None-clause-found
returns-in-None-clause-found g c =
    let measure = g.D.Dimension.measure c.args.dimension.now in
    let none = sym (ap items_in c.in-None.is) ∙ ap (λ r. r.items) c.self.view_is in
    searched_none measure c.args.target g.S.Summary.empty g.S.Summary.op g.T.Summed.sum_of c.args.self.now.items 0 c.unit.result 0
    (c.unit.ensures ∙ ap (total g.S.Summary.empty g.S.Summary.op g.T.Summed.sum_of) none)
    (sym (ap measure c.unit.ensures ∙ g.met.D.Dimension.zero c.args.dimension.now)) (omega arith) (ap length none)
