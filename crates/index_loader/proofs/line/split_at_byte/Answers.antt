use Rattle.std.proofs.lemmas.List.{take_rest}
use Rattle.index_loader.proofs.Split.{parts-none, parts-some}
use Rattle.index_loader.proofs.line.split_at_byte.Goals as goal

pub returns-in-None-clause-parts : goal.returns-in-None-clause-parts
returns-in-None-clause-parts c = parts-none _ _ c.in-None.ensures

pub returns-in-Some-clause-parts : goal.returns-in-Some-clause-parts
returns-in-Some-clause-parts c = rw take_rest (parts-some _ _ _ 0 c.in-Some.ensures)
