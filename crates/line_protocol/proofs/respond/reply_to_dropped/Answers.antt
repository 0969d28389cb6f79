use Rattle.std.proofs.Common.{arith}
use Rattle.line_protocol.proofs.StepReplies.{too_long_answers, memory_answers}
use Rattle.line_protocol.proofs.respond.reply_to_dropped.Goals as goal

pub returns-then-count-gt-LINE_LIMIT : goal.returns-then-count-gt-LINE_LIMIT
returns-then-count-gt-LINE_LIMIT c = λ line office stands. too_long_answers office line _ c.refused.ensures.text (omega arith)

pub returns-else-count-gt-LINE_LIMIT : goal.returns-else-count-gt-LINE_LIMIT
returns-else-count-gt-LINE_LIMIT c = λ line office stands. memory_answers office line _ c.out_of_memory.ensures.text (omega arith)
