use Rattle.std.{proofs.Common.arith, specs.List.insert, proofs.lemmas.List.Edits.length-insert}
use Rattle.oracle.proofs.Light.{all_fit}
use Rattle.oracle.proofs.tree.items.put.Goals as goal

pub insert-requires-clause-fit : goal.insert-requires-clause-fit
insert-requires-clause-fit c =
    let items = c.args.items.now.items in
    c.law_sums_of_lists.ensures.runs (insert items c.args.i c.args.item)
    (all_fit (insert items c.args.i c.args.item) (omega (arith, length-insert items c.args.i c.args.item (omega arith))))
