use Rattle.std.proofs.Common.{length, ◌∙◌}
use Rattle.decoder_core.specs.Queue.{feed}
use Rattle.codec.specs.Any.{any}
use Rattle.streams.proofs.{Lifting.OnOk-weaker, Texts.gathered-shown}
use Rattle.streams.proofs.decoding.decode_any.Goals as goal

pub returns-clause-items : goal.returns-clause-items
returns-clause-items c =
    let bytes = c.args.part.bytes.now in
    OnOk-weaker c.run_piece.result
    (λ h. h ∙ gathered-shown (length bytes) c.args.text.now _ (feed (any c.args.part.decoder.now) c.args.state bytes).items
    (c.law_one_run.ensures.shown c.args.state bytes))
    c.run_piece.ensures.items
