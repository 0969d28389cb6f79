use Rattle.std.proofs.{Common.length, Common.sym, Common.ap, Common.◌∙◌, Common.arith, Common.insert, lemmas.List.Edits.length-insert}
use Rattle.sum_tree.{specs.Listed.items_in, proofs.Totals.summable_runs}
use Rattle.sum_tree.proofs.tree.SumTree.insert.Goals as goal

pub inserted-root-requires-clause-summable : goal.inserted-root-requires-clause-summable
inserted-root-requires-clause-summable g c =
    let items = c.args.self.now.items in
    let seen = ap (λ r. r.items) c.self.view_is in
    let count = ap length seen in
    let spare = ap (λ r. r.spare) c.self.view_is in
    let more = length-insert items c.args.i c.args.item c.requires.place in
    summable_runs g.met.S.Summary.laws g.T.Summed.sum_of (insert items c.args.i c.args.item) _
    (ap (λ l. insert l c.args.i c.args.item) (sym seen ∙ ap items_in (sym c.take.ensures.value))) c.requires.fit (omega arith)
