use Rattle.std.proofs.{Common.ap, Common.subst, Common.IsUtf8, lemmas.Str.IsUtf8-append, lemmas.Str.IsUtf8-string_bytes}
use Rattle.codec.specs.Gathering.{WrittenText}
use Rattle.codec.proofs.text_blocks.TextBlocks.law_is_utf8.Goals as goal

pub returns : goal.returns
returns c = subst IsUtf8 (ap (λ (w : WrittenText). w.bytes) c.self.view_is) (IsUtf8-append _ _ (IsUtf8-string_bytes c.self.inside.text) c.self.invariant.1)
