use Rattle.line_protocol.proofs.Merging.{next_alone}
use Rattle.line_protocol.proofs.reply_line.members.next.Goals as goal

pub returns-in-Some-None-clause-next : goal.returns-in-Some-None-clause-next
returns-in-Some-None-clause-next c = next_alone _ _ _ _ c.in-Some-None.ensures.cases.0 c.in-Some-None.ensures'.cases
