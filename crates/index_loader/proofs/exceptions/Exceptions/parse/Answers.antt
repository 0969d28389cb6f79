use Rattle.std.proofs.{Common.◌+◌, lemmas.Result.err_from_is_err_and}
use Rattle.index_loader.{specs.Exceptions.with_exception, proofs.LineLemmas.fault-of_file}
use Rattle.index_loader.proofs.exceptions.Exceptions.parse.Goals as goal

pub returns-in_err-put_line : goal.returns-in_err-put_line
returns-in_err-put_line c =
    let p = err_from_is_err_and c.from_residual.result c.from_residual.ensures.1 in
    rw (p.1, p.2) (fault-of_file with_exception _ c.loop-rest.exceptions (c.loop-rest.number + 1) _ _ _ _ _ _ _
    c.loop-rest.invariant.parsed c.in-Some.is c.split_at_byte.ensures.parts c.in_err-put_line.ensures.err)
