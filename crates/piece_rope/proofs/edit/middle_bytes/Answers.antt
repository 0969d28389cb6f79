use Rattle.piece_rope.proofs.{Prelude.arith, Counting.before-le}
use Rattle.piece_rope.proofs.edit.middle_bytes.Goals as goal

pub push_bytes-requires-2-clause-within : goal.push_bytes-requires-2-clause-within
push_bytes-requires-2-clause-within c = omega (arith, c.requires.spans.end, before-le c.args.pieces.now.items c.args.window.now.last)
