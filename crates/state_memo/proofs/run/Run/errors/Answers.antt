use Rattle.std.proofs.Common.{sym, ◌∙◌}
use Rattle.state_memo.proofs.Walks.{run-errors, run-no-errors}
use Rattle.state_memo.proofs.run.Run.errors.Goals as goal

pub returns-then-is_error : goal.returns-then-is_error
returns-then-is_error c = run-errors c.args.self c.from.result (sym c.is_error.ensures ∙ c.if-is_error.true) c.from.ensures

pub returns-else-is_error : goal.returns-else-is_error
returns-else-is_error c = run-no-errors c.args.self (sym c.is_error.ensures ∙ c.if-is_error.false)
