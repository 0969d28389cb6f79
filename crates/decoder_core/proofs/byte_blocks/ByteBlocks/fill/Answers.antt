use Rattle.std.proofs.Common.{◌+◌, ◌-◌, ◌≤◌, ◌++◌, length, take, refl, arith, ap, sym, ◌∙◌, append_assoc}
use Rattle.decoder_core.specs.EncoderOutput.{Written}
use Rattle.lemmas.proofs.Lists.{filled_more}
use Rattle.decoder_core.proofs.byte_blocks.ByteBlocks.fill.Goals as goal

pub returns : goal.returns
returns c =
    let at = c.self.inside.filled in
    let put = c.args.bytes.now in
    let filled : c.self.inside.filled ≤ length c.self.inside.block = omega arith in
    let e = filled_more at (at + length put - at) (length put) c.self.inside.block c.copy_from_slice.new.self put c.copy_from_slice.ensures.after refl filled in
    rw e (sym (append_assoc c.self.inside.whole.items (take at c.self.inside.block) put) ∙ ap (λ (w : Written). w.bytes ++ put) c.self.view_is)
