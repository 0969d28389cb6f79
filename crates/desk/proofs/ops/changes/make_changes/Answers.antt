use Rattle.desk.proofs.Several.{only-bytes-on}
use Rattle.desk.proofs.ops.changes.make_changes.Goals as goal

pub returns-in-Err-clause-kept : goal.returns-in-Err-clause-kept
returns-in-Err-clause-kept c = only-bytes-on c.args.document.now c.changes.document c.make_change.new.document c.changes.invariant.kept
    c.make_change.ensures.kept
