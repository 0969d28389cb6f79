use Rattle.std.proofs.{Common.arith, lemmas.List.Sums.prefix_len-le-length}
use Rattle.lane_ascii.proofs.Prefixes.{ends_in, goes_on}
use Rattle.lane_ascii.proofs.runs.rest_of_run.Goals as goal

pub overflow_sub-bytes : goal.overflow_sub-bytes
overflow_sub-bytes g c = omega (arith, prefix_len-le-length g.C.Class.holds c.args.bytes.now)

pub returns-then-run-lt16 : goal.returns-then-run-lt16
returns-then-run-lt16 g c =
    let within = prefix_len-le-length g.C.Class.holds c.args.bytes.now in
    ends_in g.C.Class.holds c.args.bytes.now c.steps.at 16 _ c.steps.invariant (omega arith) c.run_in_16-run.ensures c.if-run-lt16.true

pub steps-preserved : goal.steps-preserved
steps-preserved g c = goes_on g.C.Class.holds c.args.bytes.now c.steps.at 16 _ c.steps.invariant c.run_in_16-run.ensures c.if-run-lt16.false
