use Rattle.std.proofs.Common.{rules, sym, ◌∙◌}
use Rattle.index_loader.specs.Index.{code_point_of}
use Rattle.iso2022jp.proofs.Escaping.{escape_held}
use Rattle.iso2022jp.proofs.decoder.Iso2022JpDecoderHandler.escape.Goals as goal

pub returns-after-is_paired : goal.returns-after-is_paired
returns-after-is_paired c =
    rw c.switched.ensures
    (escape_held (code_point_of c.args.self.now) c.args.state c.in-Ready-false-eq27.field-0-0 _ c.args.bytes.now (search rules) (search rules)
    c.in-Ready-false-eq27.len_at_least (search rules) (sym c.escape_to.ensures ∙ c.in_ok-output-in-Ready-false-eq27.was))
