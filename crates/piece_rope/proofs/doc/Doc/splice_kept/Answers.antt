use Rattle.std.specs.Bool.{⊤}
use Rattle.piece_rope.proofs.Prelude.{err_from_is_err_and, ap, sym, ◌∙◌, chars, Document, is_kept, kept_fault, PreparedEdit}
use Rattle.piece_rope.proofs.{KeptAnswering.kept-still, Logging.held-edited, Logging.held-still, Logging.seen-edited, Preparing.metered-as}
use Rattle.piece_rope.proofs.doc.Doc.splice_kept.Goals as goal

pub returns-in_err-edit-clause-faults : goal.returns-in_err-edit-clause-faults
returns-in_err-edit-clause-faults c =
    let e = err_from_is_err_and c.from_residual.result c.from_residual.ensures.1 in
    rw (e.1, e.2) (kept-still PreparedEdit ⊤ _ _ _ _ _
    (ap (λ (x : Document). kept_fault x c.args.at c.args.del c.args.ins.now c.args.i c.args.j) (sym c.self.view_is))
    (ap (λ (x : Document). is_kept x c.args.at c.args.del c.args.ins.now c.args.i c.args.j (chars c.args.text.now)) (sym c.self.view_is))
    c.in_err-edit.ensures.faults)

pub returns-clause-faults : goal.returns-clause-faults
returns-clause-faults c = (
  ap (λ (x : Document). kept_fault x c.args.at c.args.del c.args.ins.now c.args.i c.args.j) (sym c.self.view_is) ∙ c.in_ok-edit.ensures.faults.0,
  ap (λ (x : Document). is_kept x c.args.at c.args.del c.args.ins.now c.args.i c.args.j (chars c.args.text.now)) (sym c.self.view_is)
      ∙ c.in_ok-edit.ensures.faults.1,
)

pub invariant_of-self : goal.invariant_of-self
invariant_of-self c =
    let err = c.in_err-install_edit.ensures in
    held-still c.self.inside.pieces c.install_edit.new.pieces err.pieces_kept err.tail_kept c.install_edit.ensures.room err.log_kept c.self.invariant

pub invariant_of-self-2 : goal.invariant_of-self-2
invariant_of-self-2 c =
    let ok = c.in_ok-install_edit.ensures in
    held-edited c.self.inside.pieces c.install_edit.new.pieces c.self.inside.tail c.in_ok-edit.ensures.ready ok.pieces ok.tail
    c.install_edit.ensures.room c.self.inside.log c.install_edit.new.log ok.log c.self.invariant

pub returns-clause-ok : goal.returns-clause-ok
returns-clause-ok c =
    let ok = c.in_ok-install_edit.ensures in
    seen-edited c.self.inside.pieces c.install_edit.new.pieces c.self.inside.tail c.in_ok-edit.ensures.ready ok.pieces ok.tail
    c.install_edit.ensures.room c.self.inside.log c.install_edit.new.log ok.log c.self.view_is

pub returns-in_err-edit-clause-meter_most : goal.returns-in_err-edit-clause-meter_most
returns-in_err-edit-clause-meter_most c = metered-as c.self.view_is _ _ _ _ _ c.prepare_kept.ensures.meter_most

pub returns-in_err-install_edit-clause-meter_most : goal.returns-in_err-install_edit-clause-meter_most
returns-in_err-install_edit-clause-meter_most c = metered-as c.self.view_is _ _ _ _ _ c.prepare_kept.ensures.meter_most

pub returns-clause-meter_most : goal.returns-clause-meter_most
returns-clause-meter_most c = metered-as c.self.view_is _ _ _ _ _ c.prepare_kept.ensures.meter_most
