use Rattle.std.proofs.Common.{◌≡◌, ◌∙◌}
use Rattle.index_loader.proofs.{Prelude.inserted, RowLemmas.inserted-rows, RowLemmas.put-at}
use Rattle.index_loader.proofs.rows.Rows.put.Goals as goal

pub invariant_of-self-2 : goal.invariant_of-self-2
invariant_of-self-2 c =
    let place = rw c.deref.ensures.value at c.count_up_to-at.ensures.place in
    let is : c.insert.new.self.items ≡ inserted (c.args.pointer, c.args.code_point) c.self.inside.rows.items =
    c.in_ok-insert.ensures.items ∙ put-at c.self.inside.rows.items (c.args.pointer, c.args.code_point) c.count_up_to-at.result place in
    rw is (inserted-rows c.self.inside.rows.items (c.args.pointer, c.args.code_point) c.self.invariant c.requires.small
    (rw (← c.self.view_is) at c.requires.other))

pub returns : goal.returns
returns c =
    let place = rw c.deref.ensures.value at c.count_up_to-at.ensures.place in
    rw (← c.self.view_is) (c.in_ok-insert.ensures.items ∙ put-at c.self.inside.rows.items (c.args.pointer, c.args.code_point) c.count_up_to-at.result place)
