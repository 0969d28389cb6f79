use Rattle.std.proofs.{Common.◌+◌, lemmas.Result.err_from_is_err_and}
use Rattle.index_loader.{specs.File.with_line, specs.Inside.pairs_by_pointer, proofs.LineLemmas.fault-of_file}
use Rattle.index_loader.proofs.reading.read_pairs.Goals as goal

pub returns-in_err-put_line-clause-fault : goal.returns-in_err-put_line-clause-fault
returns-in_err-put_line-clause-fault c =
    let p = err_from_is_err_and c.from_residual-in_err-put_line.result c.from_residual-in_err-put_line.ensures.1 in
    rw (p.1, p.2)
    (fault-of_file (with_line c.args.kind) _ (pairs_by_pointer c.loop-rest.pairs) (c.loop-rest.number + 1) _ _ _ _ _ _ _
    c.loop-rest.invariant.parsed c.in-Some.is c.split_at_byte.ensures.parts c.in_err-put_line.ensures.err)
