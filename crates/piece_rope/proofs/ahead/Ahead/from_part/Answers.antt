use Rattle.piece_rope.proofs.Prelude.{◌++◌, List, sym, ap, ◌∙◌, drop, encode_utf8_all, take, Entry, texts_of}
use Rattle.piece_rope.{specs.Ahead.chunks, specs.Ahead.together, proofs.Wanting.wanted-from}
use Rattle.piece_rope.proofs.ahead.Ahead.from_part.Goals as goal

pub returns : goal.returns
returns c =
    let w = c.new-wanted.result in
    sym c.new-wanted.ensures.text
    ∙ wanted-from w c.args.first c.if-wanted-first.false
    ∙ ap (λ (ps : List Entry). encode_utf8_all (texts_of (take c.args.first ps)) ++ together (drop c.args.first (chunks w))) c.new-wanted.ensures.pieces
