use Rattle.std.proofs.{Common.sym, Common.string_bytes, lemmas.Str.encodes-chars, lemmas.Str.IsUtf8-string_bytes}
use Rattle.decode_sums.proofs.sum.text_of.Goals as goal

pub returns-clause-text : goal.returns-clause-text
returns-clause-text c =
    let text = c.in_ok-decode_whole.field-0.text in
    rw (← c.in_ok-decode_whole.ensures.text) (sym (encodes-chars (string_bytes text) (IsUtf8-string_bytes text)))
