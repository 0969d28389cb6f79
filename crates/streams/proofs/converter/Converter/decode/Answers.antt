use Rattle.std.proofs.Common.{length, sym, ◌∙◌, string_bytes}
use Rattle.std.proofs.lemmas.Str.{chars_from_encodes, IsUtf8-string_bytes}
use Rattle.decoder_core.specs.Queue.{feed}
use Rattle.codec.specs.Any.{any}
use Rattle.streams.proofs.Texts.{gathered-first}
use Rattle.streams.proofs.converter.Converter.decode.Goals as goal

pub returns-clause-text : goal.returns-clause-text
returns-clause-text c =
    let text = c.in_ok-finish.field-0.text in
    let items = (feed (any c.self.inside.decoder) c.self.inside.state c.args.bytes.now).items in
    let k = gathered-first (length c.args.bytes.now) c.is_strict.result _ items c.new-text.result c.decode_part.new.text c.new-text.ensures
    c.in_ok-after.ensures.items in
    rw (← c.self.view_is, ← c.is_strict.ensures)
    (sym (chars_from_encodes _ (string_bytes text) (IsUtf8-string_bytes text) (k.0 ∙ sym c.in_ok-finish.ensures.text)))

pub returns-clause-stop : goal.returns-clause-stop
returns-clause-stop c =
    let items = (feed (any c.self.inside.decoder) c.self.inside.state c.args.bytes.now).items in
    let k = gathered-first (length c.args.bytes.now) c.is_strict.result _ items c.new-text.result c.decode_part.new.text c.new-text.ensures
    c.in_ok-after.ensures.items in
    rw (← c.self.view_is, ← c.is_strict.ensures) (c.in_ok-finish.ensures.stop ∙ k.1)
