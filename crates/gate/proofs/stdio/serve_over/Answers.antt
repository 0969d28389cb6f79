use Rattle.std.proofs.Common.{sym, ap, ◌∙◌}
use Rattle.gate.specs.Serving.{run_answer}
use Rattle.gate.proofs.stdio.serve_over.Goals as goal

pub returns-in-Err-clause-keeps : goal.returns-in-Err-clause-keeps
returns-in-Err-clause-keeps g c keeps e = c.in-Err.ensures.keeps keeps (sym c.failure_of.ensures ∙ ap run_answer e)
