use Rattle.std.proofs.Common.{◌∙◌}
use Rattle.gateway.proofs.Printed.{line-then, line-front}
use Rattle.gateway.proofs.traces.print.print_line.Goals as goal

pub returns-in-Ok-clause-writes : goal.returns-in-Ok-clause-writes
returns-in-Ok-clause-writes g c =
    line-then _ c.args.c _ c.args.line.now _ _ _ (c.as_slice.ensures ∙ c.spaced-number.ensures) c.in-Ok.ensures.ok
    c.write_all-in-Ok.ensures.ok c.write_all-in-Ok.ensures.err

pub returns-in-Err-clause-writes : goal.returns-in-Err-clause-writes
returns-in-Err-clause-writes g c = line-front c.args.c _ c.args.line.now _ _ (c.as_slice.ensures ∙ c.spaced-number.ensures) c.in-Err.ensures.err
