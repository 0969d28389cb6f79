use Rattle.std.proofs.{Common.arith, Common.slice_set, lemmas.List.length-set}
use Rattle.oracle.proofs.Light.{all_fit}
use Rattle.oracle.proofs.tree.items.swap.Goals as goal

pub replace-requires-clause-fit : goal.replace-requires-clause-fit
replace-requires-clause-fit c =
    let items = c.args.items.now.items in
    c.law_sums_of_lists.ensures.runs (slice_set items c.args.i c.args.item)
    (all_fit (slice_set items c.args.i c.args.item) (omega (arith, length-set items c.args.i c.args.item)))
