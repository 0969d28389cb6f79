use Rattle.std.proofs.Common.{arith}
use Rattle.oracle.proofs.Light.{all_fit}
use Rattle.oracle.proofs.tree.items.built.Goals as goal

pub build-requires : goal.build-requires
build-requires c =
    let items = c.args.items.now.items in
    c.law_sums_of_lists.ensures.runs items (all_fit items (omega arith))
