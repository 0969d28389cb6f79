use Rattle.std.proofs.Common.{length, sym, ◌∙◌}
use Rattle.decoder_core.specs.{Queue.feed, Shown.shown_from}
use Rattle.codec.specs.Any.{any}
use Rattle.streams.proofs.{Lifting.OnOk-weaker, Texts.gathered-alike}
use Rattle.streams.proofs.decoding.decode_part.Goals as goal

pub returns-clause-items : goal.returns-clause-items
returns-clause-items c =
    let bytes = c.args.part.bytes.now in
    let shown = c.law_one_run.ensures.shown in
    OnOk-weaker c.decode_from.result
    (λ h. h ∙ gathered-alike (length bytes) c.args.text.now _ _ _ _ (shown c.without_look-entry.result bytes) (shown c.args.state bytes)
    (c.without_look-entry.ensures.shown 0))
    c.decode_from.ensures.items
