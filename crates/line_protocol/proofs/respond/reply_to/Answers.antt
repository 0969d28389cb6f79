use Rattle.std.proofs.Common.{ap}
use Rattle.line_protocol.specs.{Fields.need, declared.request.refusal.Refusal.TheVariants.BadJson}
use Rattle.line_protocol.proofs.StepReplies.{too_long_answers, read_answers, unread_answers}
use Rattle.line_protocol.proofs.respond.reply_to.Goals as goal

pub returns-then-line-gt-LINE_LIMIT : goal.returns-then-line-gt-LINE_LIMIT
returns-then-line-gt-LINE_LIMIT c = too_long_answers _ _ _ c.refused.ensures.text c.if-line-gt-LINE_LIMIT.true

pub returns-then-flat_object : goal.returns-then-flat_object
returns-then-flat_object c =
    read_answers _ _ _ _ _ c.if-line-gt-LINE_LIMIT.false (ap (need BadJson) (c.flat_object.ensures c.if-flat_object.true)) c.answer.ensures

pub returns-in-Ok : goal.returns-in-Ok
returns-in-Ok c = read_answers _ _ _ _ _ c.if-line-gt-LINE_LIMIT.false c.in-Ok.ensures c.answer-in-Ok.ensures

pub returns-in-Err : goal.returns-in-Err
returns-in-Err c = unread_answers _ _ _ c.in-Err.refusal c.if-line-gt-LINE_LIMIT.false c.in-Err.ensures c.refused-in-Err.ensures.text
