use Rattle.std.proofs.Common.{ap, sym, ◌∙◌}
use Rattle.sum_tree.specs.{Sums.total, Listed.items_in}
use Rattle.sum_tree.proofs.tree.SumTree.total.Goals as goal

pub returns-in-Some : goal.returns-in-Some
returns-in-Some g c =
    c.total.ensures ∙ ap (total g.S.Summary.empty g.S.Summary.op g.T.Summed.sum_of) (sym (ap items_in c.in-Some.is) ∙ ap (λ r. r.items) c.self.view_is)
