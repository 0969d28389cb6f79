use Rattle.std.proofs.lemmas.Result.{err_from_is_err_and}
use Rattle.desk.proofs.Splice.{splice_made, splice_refused}
use Rattle.desk.proofs.ops.splice.ReadSpliceEdit.apply.Goals as goal

pub returns-in_err-splice-clause-step : goal.returns-in_err-splice-clause-step
returns-in_err-splice-clause-step c =
    let e = err_from_is_err_and c.from_residual.result c.from_residual.ensures.1 in
    let splice = c.args.self.now in
    rw (e.1, e.2) (splice_refused c.args.document.now c.splice.new.self splice.at splice.del splice.ins.now c.in_err-splice.field-0.0
    c.in_err-splice.ensures.faults)

pub returns-clause-step : goal.returns-clause-step
returns-clause-step c =
    let splice = c.args.self.now in
    splice_made c.args.document.now c.splice.new.self splice.at splice.del splice.ins.now c.in_ok-splice.ensures.faults c.in_ok-splice.ensures.ok
