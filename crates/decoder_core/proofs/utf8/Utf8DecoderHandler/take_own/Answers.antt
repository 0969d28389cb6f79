use Rattle.decoder_core.proofs.{Prelude.utf8_falls, Moving.nothing_is_own}
use Rattle.decoder_core.proofs.utf8.Utf8DecoderHandler.take_own.Goals as goal

pub returns-else-eq : goal.returns-else-eq
returns-else-eq c = nothing_is_own utf8_falls c.args.state c.args.bytes.now
