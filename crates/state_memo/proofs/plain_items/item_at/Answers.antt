use Rattle.std.proofs.Common.{◌∙◌, ap, rules, ℤ, false}
use Rattle.state_memo.proofs.plain_items.item_at.Goals as goal

pub returns : goal.returns
returns c = c.at.ensures ∙ c.one.ensures _
    ∙ ap (λ (z : ℤ). record { scalars = 1; end = z; error = false; output = c.args.output }) (search rules)
