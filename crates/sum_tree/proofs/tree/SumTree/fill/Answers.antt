use Rattle.std.proofs.Common.{ap, arith}
use Rattle.sum_tree.proofs.Totals.{whole_fits}
use Rattle.sum_tree.proofs.tree.SumTree.fill.Goals as goal

pub built-requires-clause-summable : goal.built-requires-clause-summable
built-requires-clause-summable g c = record {
  fit = whole_fits g.S.Summary.fits g.S.Summary.empty g.S.Summary.op g.T.Summed.sum_of c.args.items.now.items c.requires.fit;
  short = let spare = ap (λ r. r.spare) c.self.view_is in omega arith;
}
