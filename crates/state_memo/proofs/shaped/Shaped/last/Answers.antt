use Rattle.std.proofs.Common.{rules, ◌≡◌, ap, sym, ◌∙◌, ◌-◌, List, Some, length, slice_get}
use Rattle.state_memo.proofs.{Prelude.Run, Shapes.last-shaped, Shapes.named-last}
use Rattle.state_memo.proofs.shaped.Shaped.last.Goals as goal

pub bounds-shapes-from : goal.bounds-shapes-from
bounds-shapes-from c =
    let numbers = c.self.inside.numbers.items in
    let at : slice_get numbers (length numbers - 1) ≡ Some c.in_ok-number.field-0.now = search rules in
    let named = named-last (length c.self.inside.shapes.items) numbers c.in_ok-number.field-0.now at c.self.invariant.named in
    search (rules, named)

pub returns : goal.returns
returns c =
    let shapes = c.self.inside.shapes.items in
    let numbers = c.self.inside.numbers.items in
    let number = c.in_ok-number.field-0.now in
    let at : slice_get numbers (length numbers - 1) ≡ Some number = search rules in
    search rules
    ∙ sym (last-shaped c.self.inside.from c.self.inside.last shapes numbers number at c.self.invariant.last)
    ∙ ap (λ (rs : List Run). slice_get rs (length rs - 1)) c.self.view_is
