use Rattle.std.proofs.lemmas.Result.{err_from_is_err_and}
use Rattle.desk.proofs.Prelude.{ap, ◌∙◌, Document, OpenDocument}
use Rattle.desk.proofs.Edits.{edit_made}
use Rattle.desk.proofs.open_document.OpenDocument.edit.Goals as goal

pub returns-in_err-done-clause-err : goal.returns-in_err-done-clause-err
returns-in_err-done-clause-err g c =
    let with_document : Document → OpenDocument =
    λ d. record { document = d; setting = c.args.self.now.setting; revision = c.args.self.now.revision; log = c.args.self.now.log } in
    let e = err_from_is_err_and c.from_residual-in_err-done.result c.from_residual-in_err-done.ensures.1 in
    rw e.1 (ap with_document c.in_err-done.ensures.err)

pub returns-clause-step : goal.returns-clause-step
returns-clause-step g c =
    edit_made c.args.self.now c.rev.result (g.E.Edit.named c.args.edit.now) (g.E.Edit.applied c.args.edit.now) (g.E.Edit.leaves c.args.edit.now) g.E.Edit.answer
    c.in_ok-done.done c.apply.new.document c.untouched.result c.push.new.self c.reply.result
    c.requires c.rev.ensures c.in_ok-check_revision.ensures c.in_ok-done.ensures.step
    (c.untouched.ensures ∙ ap (g.E.Edit.leaves c.args.edit.now c.in_ok-done.done) c.byte_count-before.ensures) c.push.ensures c.reply.ensures.reply
