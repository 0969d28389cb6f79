use Rattle.decoder_core.proofs.PlainRuns.{run_is_own}
use Rattle.decoder_core.proofs.run_bulk.own_run.Goals as goal

pub returns : goal.returns
returns g c = run_is_own (g.met.H.Handler.ends c.args._handler.now) c.args._state c.args.runs c.requires c.args.bytes.now c.long_run.result c.long_run.ensures
