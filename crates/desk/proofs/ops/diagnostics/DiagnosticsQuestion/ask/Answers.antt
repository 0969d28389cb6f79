use Rattle.std.proofs.Common.{arith}
use Rattle.desk.proofs.Diagnostics.{answered_past, answered_within}
use Rattle.desk.proofs.ops.diagnostics.DiagnosticsQuestion.ask.Goals as goal

pub returns-then-from-total : goal.returns-then-from-total
returns-then-from-total c =
    answered_past c.args.opened.now c.args.self.now.start c.args.self.now.max c.args.self.now.unit
    (omega (arith, c.if-from-total.true, c.lengths-total.ensures.errors, c.first_error-from.ensures))

pub returns : goal.returns
returns c =
    rw (c.new.ensures, c.in_ok-page.ensures.page, c.lengths-total.ensures.errors, c.first_error-from.ensures)
    (answered_within c.args.opened.now c.args.self.now.start c.args.self.now.max c.args.self.now.unit
    (omega (arith, c.if-from-total.false, c.lengths-total.ensures.errors, c.first_error-from.ensures)))
