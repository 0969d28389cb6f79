use Rattle.std.proofs.Common.{rules}
use Rattle.index_loader.proofs.ByCodePointLemmas.{last-found, last-other, last-none}
use Rattle.index_loader.proofs.by_code_point.last_among.Goals as goal

pub returns-in_err-pointer : goal.returns-in_err-pointer
returns-in_err-pointer c = rw c.from_residual.ensures (last-none _ _ c.in_err-pointer.ensures)

pub returns-then-get-code_point : goal.returns-then-get-code_point
returns-then-get-code_point c = last-found _ _ _ c.in_ok-pointer.ensures (search rules)

pub returns-else-get-code_point : goal.returns-else-get-code_point
returns-else-get-code_point c = last-other _ _ _ c.in_ok-pointer.ensures (search rules)
