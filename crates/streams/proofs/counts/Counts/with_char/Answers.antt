use Rattle.std.proofs.Common.{◌≡◌, sym, ap, ◌∙◌, List, ℕ, [], ◌∷◌, append-nil}
use Rattle.std.specs.Str.{chars}
use Rattle.std.proofs.Math.Utf8.{encode}
use Rattle.std.proofs.lemmas.Str.{chars_from_encodes}
use Rattle.streams.specs.Counting.{counted}
use Rattle.streams.proofs.Lifting.{IfOk-weaker}
use Rattle.streams.proofs.counts.Counts.with_char.Goals as goal

pub returns : goal.returns
returns c =
    let text = c.encode_utf8.result.now in
    let one : c.args.c ∷ [] ≡ chars text = chars_from_encodes (c.args.c ∷ []) text c.encode_utf8.utf8
    (append-nil (encode c.args.c) ∙ sym c.encode_utf8.ensures.value) in
    IfOk-weaker c.with.result (λ n is. is ∙ ap (counted c.args.self) (sym one)) c.with.ensures
