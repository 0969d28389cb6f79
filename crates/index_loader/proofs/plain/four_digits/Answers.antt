use Rattle.std.proofs.Common.{arith, rules}
use Rattle.index_loader.proofs.Digits.{four-digits, three-small}
use Rattle.index_loader.proofs.plain.four_digits.Goals as goal

pub overflow_mul-result-3 : goal.overflow_mul-result-3
overflow_mul-result-3 c =
    let small = three-small c.digit_value-first.result c.digit_value-second.result c.digit_value-third.result c.args.base c.requires.high
    (search rules) (search rules) (search rules) in
    omega arith

pub overflow_add-result-3 : goal.overflow_add-result-3
overflow_add-result-3 c =
    let small = three-small c.digit_value-first.result c.digit_value-second.result c.digit_value-third.result c.args.base c.requires.high
    (search rules) (search rules) (search rules) in
    omega (arith, c.if-fourth-base.false)

pub returns-clause-digits : goal.returns-clause-digits
returns-clause-digits c = four-digits c.args.base c.args.text.now (search rules) (search rules) (search rules) (search rules) (search rules)
