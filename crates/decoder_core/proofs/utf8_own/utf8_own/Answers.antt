use Rattle.decoder_core.proofs.Utf8Runs.{utf8_is_own, utf8-near}
use Rattle.decoder_core.proofs.utf8_own.utf8_own.Goals as goal

pub returns : goal.returns
returns c =
    let bytes = c.args.bytes.now in
    let near = utf8-near c.parts_run.result c.min.result bytes c.parts_run.ensures.within c.parts_run.ensures.valid in
    utf8_is_own bytes c.parts_run.result near.0 near.1
