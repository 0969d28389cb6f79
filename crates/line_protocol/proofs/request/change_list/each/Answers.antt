use Rattle.std.proofs.{Common.Some, Common.append-nil, lemmas.Iterator.Adapters.option_map_id}
use Rattle.line_protocol.proofs.Prelude.{◌≡◌, ◌+◌, List, [], map, drop, sym, ap, ◌∙◌, drop_of_length-le, change_of, items_view, Value, as_changes}
use Rattle.line_protocol.proofs.ChangeLists.{behind, goes_on, next_element, stops}
use Rattle.line_protocol.proofs.request.change_list.each.Goals as goal

pub loop-element-init : goal.loop-element-init
loop-element-init c = rw (c.in_ok-list.ensures.items) (option_map_id _)

pub returns-in_default : goal.returns-in_default
returns-in_default c =
    let front = map change_of c.loop-element.list.items in
    let rest = drop (c.loop-element.element-index + 1) c.args.elements.now in
    sym (stops front c.element-item.result rest c.in_default.ensures)
    ∙ ap (λ (vs : List Value). behind front (as_changes (items_view vs)))
    (next_element c.args.elements.now c.loop-element.element-index c.element-item.result c.loop-element-test.true c.element-item.is)
    ∙ c.loop-element.invariant

pub loop-element-preserved : goal.loop-element-preserved
loop-element-preserved c =
    let front = map change_of c.loop-element.list.items in
    let rest = drop (c.loop-element.element-index + 1) c.args.elements.now in
    rw c.in_ok-push.ensures.items (goes_on c.loop-element.list.items c.in-Some.change c.element-item.result rest c.in-Some.ensures
    ∙ ap (λ (vs : List Value). behind front (as_changes (items_view vs)))
    (next_element c.args.elements.now c.loop-element.element-index c.element-item.result c.loop-element-test.true c.element-item.is)
    ∙ c.loop-element.invariant)

pub returns : goal.returns
returns c =
    let rest : drop c.loop-element.element-index c.args.elements.now ≡ [] = drop_of_length-le c.args.elements.now c.loop-element-test.false in
    let all = rw rest at c.loop-element.invariant in
    sym (ap Some (append-nil (map change_of c.loop-element.list.items))) ∙ all
