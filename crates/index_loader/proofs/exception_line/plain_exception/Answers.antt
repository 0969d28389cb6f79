use Rattle.std.proofs.Common.{rules}
use Rattle.index_loader.proofs.{ExceptionLemmas.exception-plain, PlainLemmas.number-with}
use Rattle.index_loader.proofs.exception_line.plain_exception.Goals as goal

pub returns : goal.returns
returns c =
    exception-plain c.args.text.now c.in_ok-digits.digits.now c.in_ok-behind.field-0.now c.in_ok-bytes.bytes c.in_ok-number.number c.in_ok-new.field-0
    c.in_ok-digits.ensures (number-with 16 _ _ _ _ c.in_ok-behind.was c.in_ok-number.ensures) (search rules) (search rules)
