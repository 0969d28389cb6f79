use Rattle.std.proofs.Common.{rules, ◌∙◌}
use Rattle.index_loader.{specs.Lines.behind_spaces, proofs.PlainLemmas.behind-spaces_same, proofs.PlainLemmas.pair-plain}
use Rattle.index_loader.proofs.plain.plain_pair.Goals as goal

pub returns : goal.returns
returns c = λ kind.
    let front = c.in_ok-pointer.ensures in
    let number = c.in_ok-hexadecimal.ensures in
    behind-spaces_same kind c.args.text.now
    ∙ pair-plain kind (behind_spaces c.args.text.now) front.behind _ c.in_ok-pointer.pointer c.in_ok-hexadecimal.field-0
    c.in_ok-new.field-0 _ front.first front.prefix number.first (search rules)
