use Rattle.decoder_core.proofs.PlainRuns.{run_is_bulk}
use Rattle.decoder_core.proofs.run_bulk.run_bulk.Goals as goal

pub returns : goal.returns
returns g c =
    run_is_bulk (g.met.H.Handler.ends c.args._handler.now) c.args._state c.args.runs c.requires c.args.bytes.now
    c.copy_run.result c.copy_run.new.text c.copy_run.ensures
