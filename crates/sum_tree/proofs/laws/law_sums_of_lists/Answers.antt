use Rattle.std.proofs.Common.{◌++◌, ap, append_assoc}
use Rattle.sum_tree.proofs.Totals.{total-append, runs_fit, whole_fits}
use Rattle.sum_tree.proofs.laws.law_sums_of_lists.Goals as goal

pub returns : goal.returns
returns g c = record {
  joined = total-append g.met.S.Summary.laws g.T.Summed.sum_of;
  runs = runs_fit g.met.S.Summary.laws g.T.Summed.sum_of g.met.S.Summary.fits_left g.met.S.Summary.fits_right;
  whole = whole_fits g.S.Summary.fits g.S.Summary.empty g.S.Summary.op g.T.Summed.sum_of;
  front = λ xs ys fit before run behind e. fit before run (behind ++ ys) (simp append_assoc at (ap (λ l. l ++ ys) e));
  back = λ xs ys fit before run behind e. fit (xs ++ before) run behind (simp append_assoc (ap (λ l. xs ++ l) e));
}
