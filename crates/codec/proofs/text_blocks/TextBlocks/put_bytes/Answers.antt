use Rattle.std.proofs.Common.{◌+◌, ◌-◌, ◌++◌, take, arith, ap, sym, ◌∙◌, append_assoc, string_bytes}
use Rattle.std.proofs.lemmas.Str.{IsUtf8-append}
use Rattle.lemmas.proofs.Lists.{filled_more}
use Rattle.codec.specs.Gathering.{WrittenText}
use Rattle.codec.proofs.text_blocks.TextBlocks.put_bytes.Goals as goal

pub invariant_of-self : goal.invariant_of-self
invariant_of-self g c =
    let e = filled_more c.self.inside.filled (c.self.inside.filled + g.row.N - c.self.inside.filled) g.row.N c.self.inside.block
    c.copy_from_slice.new.self c.args.bytes c.copy_from_slice.ensures.after (omega (arith, c.well_formed)) (omega arith) in
    (omega (arith, ap (λ (w : WrittenText). w.room) c.self.view_is), rw e (IsUtf8-append _ _ c.self.invariant.1 c.requires.text))

pub returns-clause-bytes : goal.returns-clause-bytes
returns-clause-bytes g c =
    let e = filled_more c.self.inside.filled (c.self.inside.filled + g.row.N - c.self.inside.filled) g.row.N c.self.inside.block
    c.copy_from_slice.new.self c.args.bytes c.copy_from_slice.ensures.after (omega (arith, c.well_formed)) (omega arith) in
    rw e (sym (append_assoc (string_bytes c.self.inside.text) (take c.self.inside.filled c.self.inside.block) c.args.bytes)
    ∙ ap (λ (w : WrittenText). w.bytes ++ c.args.bytes) c.self.view_is)
