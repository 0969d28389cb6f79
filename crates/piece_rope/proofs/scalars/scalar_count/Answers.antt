use Rattle.piece_rope.proofs.Prelude.{ap, arith, chars, encodes-chars, length, length-le-encodes}
use Rattle.piece_rope.proofs.scalars.scalar_count.Goals as goal

pub returns-clause-few : goal.returns-clause-few
returns-clause-few c =
    let own = ap length (encodes-chars c.args.text.now c.utf8.text) in
    let bytes = c.as_bytes-bytes in
    omega (arith, c.count_scalars.ensures, length-le-encodes (chars c.args.text.now), own, bytes.ensures.len, bytes.type_inv)
