use Rattle.std.proofs.{Common.rules, lemmas.List.take_rest}
use Rattle.index_loader.proofs.PlainLemmas.{number-alone, number-before}
use Rattle.index_loader.proofs.plain.plain_number.Goals as goal

pub returns-then-len-text : goal.returns-then-len-text
returns-then-len-text c =
    number-alone c.args.base c.args.text.now _ _ c.requires.high (search rules) (search rules) c.leading_number-number.ensures.digits
    c.leading_number-number.ensures.value

pub returns-then-text-len-eq9 : goal.returns-then-text-len-eq9
returns-then-text-len-eq9 c =
    rw take_rest (number-before c.args.base c.args.text.now _ _ c.requires.high (search rules) (search rules)
    (search rules) c.leading_number-number.ensures.digits c.leading_number-number.ensures.value)
