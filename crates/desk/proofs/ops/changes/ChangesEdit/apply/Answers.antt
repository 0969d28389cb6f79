use Rattle.std.proofs.Common.{map, ap}
use Rattle.desk.{specs.Changes.change_of, proofs.Several.list-made, proofs.Several.list-refused}
use Rattle.desk.proofs.ops.changes.ChangesEdit.apply.Goals as goal

pub returns-in-Ok-clause-step : goal.returns-in-Ok-clause-step
returns-in-Ok-clause-step c =
    let step = rw (c.as_slice-changes.ensures.value, c.begin.ensures) at c.in-Ok.ensures.step in
    rw (c.in-Ok.is, c.commit.ensures)
    (list-made c.args.self.now.unit (map change_of c.args.self.now.changes.items) c.args.document.now c.requires
    c.make_changes-made.new.document c.in-Ok.field-0 step)

pub returns-in-Err-clause-step : goal.returns-in-Err-clause-step
returns-in-Err-clause-step c = rw c.in-Err.is
    (list-refused c.args.self.now.unit (map change_of c.args.self.now.changes.items) c.args.document.now c.requires
    c.in-Err.field-0 c.make_changes-made.new.document c.roll_back.new.self _ _
    (ap (map change_of) c.as_slice-changes.ensures.value) c.begin.ensures c.in-Err.ensures.step)
