use Rattle.line_protocol.proofs.MemoryReplies.{out_of_memory_changes_nothing}
use Rattle.line_protocol.proofs.laws.law_out_of_memory_changes_nothing.Goals as goal

pub returns : goal.returns
returns c = λ old new line is. out_of_memory_changes_nothing c.law_refusals_change_nothing.ensures.changes old new line is
