use Rattle.std.{proofs.Common.arith, specs.List.remove, proofs.lemmas.List.Edits.length-remove}
use Rattle.oracle.proofs.Light.{all_fit}
use Rattle.oracle.proofs.tree.items.take.Goals as goal

pub remove-requires-clause-fit : goal.remove-requires-clause-fit
remove-requires-clause-fit c =
    let items = c.args.items.now.items in
    c.law_sums_of_lists.ensures.runs (remove items c.args.i) (all_fit (remove items c.args.i) (omega (arith, length-remove items c.args.i (omega arith))))
