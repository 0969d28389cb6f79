use Rattle.std.proofs.Common.{rules}
use Rattle.index_loader.proofs.PlainLemmas.{tens-of}
use Rattle.index_loader.proofs.tens.number_of.Goals as goal

pub returns-then-number-lt10000 : goal.returns-then-number-lt10000
returns-then-number-lt10000 c =
    tens-of _ c.behind_spaces-digits.result.now c.leading_number-number.result.0 c.leading_number-number.result.1 (search rules)
    (search rules) c.leading_number-number.ensures.digits c.leading_number-number.ensures.value (search rules)
