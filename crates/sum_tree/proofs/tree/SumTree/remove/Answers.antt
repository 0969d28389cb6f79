use Rattle.std.proofs.{Common.length, Common.sym, Common.ap, Common.◌∙◌, Common.arith, Common.remove, lemmas.List.Edits.length-remove}
use Rattle.sum_tree.{specs.Listed.items_in, specs.Listed.nodes_in, proofs.Totals.summable_runs}
use Rattle.sum_tree.proofs.tree.SumTree.remove.Goals as goal

pub removed-item-requires-clause-summable : goal.removed-item-requires-clause-summable
removed-item-requires-clause-summable g c =
    let items = c.args.self.now.items in
    let seen = ap (λ r. r.items) c.self.view_is in
    let count = ap length seen in
    let held = c.self.invariant.summable.short in
    let edited = length-remove items c.args.i c.requires.place in
    summable_runs g.met.S.Summary.laws g.T.Summed.sum_of (remove items c.args.i) _
    (ap (λ l. remove l c.args.i) (sym seen ∙ ap items_in (sym c.take.ensures.value))) c.requires.fit (omega arith)

pub invariant_of-self : goal.invariant_of-self
invariant_of-self g c =
    let items = c.args.self.now.items in
    let seen = ap (λ r. r.items) c.self.view_is in
    let count = ap length seen in
    let held = c.self.invariant.summable.short in
    let edited = length-remove items c.args.i c.requires.place in
    let left = ap (λ l. remove l c.args.i) (sym seen ∙ ap items_in (sym c.take.ensures.value)) ∙ sym c.removed-item.ensures.items in
    let fewer = ap length left in
    let nodes = ap nodes_in c.take.ensures.value in
    record {
      sound = c.removed-item.ensures.sound;
      summable = summable_runs g.met.S.Summary.laws g.T.Summed.sum_of (remove items c.args.i) _ left c.requires.fit (omega arith);
      room = omega arith;
      space = omega arith;
      few = omega arith;
    }
