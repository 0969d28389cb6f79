use Rattle.state_memo.proofs.Walks.{run-scalars}
use Rattle.std.proofs.Common.{◌∙◌}
use Rattle.state_memo.proofs.run.Run.scalars.Goals as goal

pub returns : goal.returns
returns c = run-scalars c.args.self c.from.result c.from-2.result c.from.ensures (c.from-2.ensures ∙ c.scalars.ensures)
