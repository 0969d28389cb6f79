use Rattle.line_protocol.proofs.FlatTokens.{of_line}
use Rattle.line_protocol.proofs.request.flat.read.flat_object.Goals as goal

pub returns-in-Ok : goal.returns-in-Ok
returns-in-Ok c =
    let object = c.object_in.new.object in
    of_line c.args.line.now c.in-Ok.text.now c.object_in.result object c.in-Ok.ensures.cases.0 c.in-Ok.ensures.cases.1 c.object_in.ensures
