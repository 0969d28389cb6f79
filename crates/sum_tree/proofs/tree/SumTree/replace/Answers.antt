use Rattle.std.proofs.Common.{length, sym, ap, ◌∙◌, arith, slice_set, length-set}
use Rattle.sum_tree.{specs.Listed.items_in, proofs.Totals.summable_runs}
use Rattle.sum_tree.proofs.tree.SumTree.replace.Goals as goal

pub replaced-old-requires-clause-summable : goal.replaced-old-requires-clause-summable
replaced-old-requires-clause-summable g c =
    let items = c.args.self.now.items in
    let seen = ap (λ r. r.items) c.self.view_is in
    let count = ap length seen in
    let held = c.self.invariant.summable.short in
    let edited = length-set items c.args.i c.args.item in
    summable_runs g.met.S.Summary.laws g.T.Summed.sum_of (slice_set items c.args.i c.args.item) _
    (ap (λ l. slice_set l c.args.i c.args.item) (sym seen ∙ ap items_in (sym c.take.ensures.value))) c.requires.fit (omega arith)
