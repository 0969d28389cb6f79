use Rattle.std.proofs.Common.{sym, ap, ◌∙◌, arith, take_all}
use Rattle.sum_tree.{specs.Sums.total, proofs.Searching.reach_root, proofs.Searching.prefix_taken}
use Rattle.sum_tree.proofs.root.summed.Goals as goal

pub prefix-requires-clause-fit : goal.prefix-requires-clause-fit
prefix-requires-clause-fit g c = reach_root g.met.S.Summary.laws g.T.Summed.sum_of _ _ c.unit.ensures c.requires.summable

pub returns-then-i-count-clause-sum : goal.returns-then-i-count-clause-sum
returns-then-i-count-clause-sum g c = prefix_taken g.met.S.Summary.laws g.T.Summed.sum_of _ _ _ _ c.unit.ensures c.prefix.ensures.prefix

pub returns-else-i-count-clause-sum : goal.returns-else-i-count-clause-sum
returns-else-i-count-clause-sum g c =
    c.total.ensures ∙ ap (total g.S.Summary.empty g.S.Summary.op g.T.Summed.sum_of) (sym (take_all c.args.i c.args.root.now.items (omega arith)))
