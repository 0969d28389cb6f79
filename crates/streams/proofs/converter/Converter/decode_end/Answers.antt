use Rattle.std.proofs.Common.{[], sym, ◌∙◌, string_bytes}
use Rattle.std.proofs.lemmas.Str.{chars_from_encodes, IsUtf8-string_bytes}
use Rattle.decoder_core.specs.Queue.{run}
use Rattle.codec.specs.Any.{any}
use Rattle.streams.proofs.{Lifting.IfOk-weaker, Texts.gathered-first}
use Rattle.streams.proofs.converter.Converter.decode_end.Goals as goal

pub returns-clause-text : goal.returns-clause-text
returns-clause-text c =
    let items = run (any c.self.inside.decoder) c.self.inside.state [] in
    let k = gathered-first 0 c.is_strict.result _ items c.new-text.result c.take_last.new.self c.new-text.ensures
    (rw (c.as_slice.ensures, c.finish-last.ensures.items) at c.in_ok-take_last.ensures) in
    rw (← c.self.view_is, ← c.is_strict.ensures)
    (IfOk-weaker c.finish.result
    (λ d text. sym (chars_from_encodes _ (string_bytes d.text) (IsUtf8-string_bytes d.text) (k.0 ∙ sym text)))
    c.finish.ensures.text)

pub returns-clause-stop : goal.returns-clause-stop
returns-clause-stop c =
    let items = run (any c.self.inside.decoder) c.self.inside.state [] in
    let k = gathered-first 0 c.is_strict.result _ items c.new-text.result c.take_last.new.self c.new-text.ensures
    (rw (c.as_slice.ensures, c.finish-last.ensures.items) at c.in_ok-take_last.ensures) in
    rw (← c.self.view_is, ← c.is_strict.ensures) (IfOk-weaker c.finish.result (λ d stop. stop ∙ k.1) c.finish.ensures.stop)
