use Rattle.decoder_core.proofs.PlainRuns.{run-none}
use Rattle.decoder_core.proofs.run_bulk.class_run.Goals as goal

pub returns-in-None : goal.returns-in-None
returns-in-None c = rw c.in-None.is (run-none c.args.bytes.now)
