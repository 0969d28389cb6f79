use Rattle.piece_rope.proofs.Prelude.{◌∙◌, any_start}
use Rattle.piece_rope.proofs.Chaining.{laws_of, entry-at}
use Rattle.piece_rope.proofs.edit.entry_of.Goals as goal

pub returns-then-first-len : goal.returns-then-first-len
returns-then-first-len c =
    let laws = (laws_of _ c.requires.lawful).laws in
    c.entry.ensures ∙ entry-at laws (any_start c.args.decoder.now) c.args.pieces.now.items c.args.first c.get.result.now c.requires.rope.chain c.get.ensures
