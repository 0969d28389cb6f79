use Rattle.decoder_core.proofs.{Prelude.falls_of, Prelude.utf16_holding, Moving.nothing_is_bulk}
use Rattle.decoder_core.proofs.utf16.Utf16DecoderHandler.take_bulk.Goals as goal

pub returns-else-eq : goal.returns-else-eq
returns-else-eq c = nothing_is_bulk (falls_of _ (utf16_holding c.args.self.now.order)) c.args.state _ c.args.bytes.now c.args.text.now
