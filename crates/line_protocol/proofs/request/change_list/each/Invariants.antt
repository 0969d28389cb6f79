use Rattle.line_protocol.proofs.Prelude.{◌≡◌, map, drop, change_of, items_view, as_changes}
use Rattle.line_protocol.proofs.ChangeLists.{behind}
use Rattle.line_protocol.proofs.request.change_list.each.Given as goal

-- The changes so far, and those in the elements that are left, are those in all of them.
abbrev pub invariant-loop-element : goal.invariant-loop-element
invariant-loop-element l = behind (map change_of l.list.items) (as_changes (items_view (drop l.element-index l.elements))) ≡ as_changes (items_view l.elements)
