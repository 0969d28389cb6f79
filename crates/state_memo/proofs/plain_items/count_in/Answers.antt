use Rattle.std.proofs.Common.{◌≡◌, ◌∙◌, ap, length, rules, sym, Option, Some}
use Rattle.state_memo.specs.Runs.{items_of_last}
use Rattle.state_memo.proofs.{Prelude.Run, Walks.count-is}
use Rattle.state_memo.proofs.plain_items.count_in.Goals as goal

pub returns-in-Some : goal.returns-in-Some
returns-in-Some c =
    let is : c.args.front ≡ Some c.in-Some.run' = search rules in
    c.count.ensures ∙ sym (ap (λ (f : Option Run). length (items_of_last f)) is ∙ count-is c.in-Some.run')
