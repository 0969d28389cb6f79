use Rattle.std.proofs.Common.{arith, refl}
use Rattle.decoder_core.proofs.PlainRuns.{run-front}
use Rattle.decoder_core.proofs.run_bulk.front_run.Goals as goal

pub returns-clause-run : goal.returns-clause-run
returns-clause-run c = (run-front c.args.runs c.class_run.result c.min.result _ c.args.bytes.now refl c.class_run.ensures).0

pub returns-clause-room : goal.returns-clause-room
returns-clause-room c =
    let front = run-front c.args.runs c.class_run.result c.min.result _ c.args.bytes.now refl c.class_run.ensures in
    Prim.omega (arith, front.1, c.min.ensures)

pub returns-clause-within : goal.returns-clause-within
returns-clause-within c = (run-front c.args.runs c.class_run.result c.min.result _ c.args.bytes.now refl c.class_run.ensures).2
