use Rattle.std.{proofs.Common.rules, proofs.Common.refl, proofs.Common.◌∙◌, specs.Char.digit_value}
use Rattle.index_loader.proofs.Digits.{in-table}
use Rattle.index_loader.proofs.field.digit_value.Goals as goal

pub returns : goal.returns
returns c = c.from-2.ensures ∙ in-table digit_value 256 _ _ _ _ refl (c.from.ensures) (search rules)
