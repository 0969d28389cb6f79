use Rattle.std.proofs.Common.{◌≡◌, ◌∙◌, ap, sym, rules, Option, Some, None}
use Rattle.state_memo.specs.{Plain.code_points_behind, Runs.items_of_last}
use Rattle.state_memo.proofs.{Prelude.Run, Prelude.errors_in, PlainTexts.plain-errors}
use Rattle.state_memo.proofs.plain_items.PlainItems.count_errors.Goals as goal

pub returns-in-Some : goal.returns-in-Some
returns-in-Some c =
    let p = c.self.inside in
    let is : p.front ≡ Some c.in-Some.run' = search rules in
    c.errors.ensures ∙ sym (plain-errors (items_of_last p.front) p.stride p.from p.output (code_points_behind p.front p.text)
    ∙ ap (λ (f : Option Run). errors_in (items_of_last f)) is) ∙ ap errors_in c.self.view_is

pub returns-in-None : goal.returns-in-None
returns-in-None c =
    let p = c.self.inside in
    let is : p.front ≡ None = search rules in
    sym (plain-errors (items_of_last p.front) p.stride p.from p.output (code_points_behind p.front p.text)
    ∙ ap (λ (f : Option Run). errors_in (items_of_last f)) is) ∙ ap errors_in c.self.view_is
