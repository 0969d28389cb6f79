use Rattle.std.proofs.Common.{ap, Some, ◌∙◌}
use Rattle.index_loader.proofs.ByCodePointLemmas.{code_point-found, code_point-none}
use Rattle.index_loader.proofs.by_code_point.greatest_among.Goals as goal

pub returns-in_err-found : goal.returns-in_err-found
returns-in_err-found c = rw c.from_residual.ensures (code_point-none _ _ c.in_err-found.ensures)

pub returns : goal.returns
returns c = ap Some c.get.ensures.value ∙ code_point-found _ _ _ c.in_ok-found.ensures
