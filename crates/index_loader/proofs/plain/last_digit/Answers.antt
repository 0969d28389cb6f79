use Rattle.std.proofs.Common.{rules}
use Rattle.index_loader.proofs.PlainLemmas.{bytes-of_last}
use Rattle.index_loader.proofs.plain.last_digit.Goals as goal

pub returns-then-digit-lt10-clause-bytes : goal.returns-then-digit-lt10-clause-bytes
returns-then-digit-lt10-clause-bytes c = bytes-of_last _ _ (search rules) (search rules)
