use Rattle.std.proofs.Common.{ap, sym, ◌∙◌}
use Rattle.state_memo.specs.Items.{kept_item}
use Rattle.state_memo.proofs.kind.ItemKind.of.Goals as goal

pub returns-in-One : goal.returns-in-One
returns-in-One c = λ end. c.one.ensures end ∙ ap (λ i. kept_item i end c.args.output) (sym c.in-One.is)

pub returns-in-Two : goal.returns-in-Two
returns-in-Two c = λ end. c.two.ensures end ∙ ap (λ i. kept_item i end c.args.output) (sym c.in-Two.is)

pub returns-in-Error : goal.returns-in-Error
returns-in-Error c = λ end. c.error.ensures end ∙ ap (λ i. kept_item i end c.args.output) (sym c.in-Error.is)
