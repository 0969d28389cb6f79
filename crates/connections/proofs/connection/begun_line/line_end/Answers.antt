use Rattle.connections.proofs.LineEnds.{first_line_end}
use Rattle.connections.proofs.connection.begun_line.line_end.Goals as goal

pub returns : goal.returns
returns c = first_line_end c.args.bytes.now c.memchr.result c.memchr.ensures
