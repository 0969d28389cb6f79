use Rattle.piece_rope.proofs.{Prelude.arith, Counting.before-mono, Counting.place-near}
use Rattle.piece_rope.proofs.window.touched.Goals as goal

pub returns-then-last-first : goal.returns-then-last-first
returns-then-last-first c =
    let items = c.args.pieces.now.items in
    let first = c.seek-first.ensures in
    let near = place-near items c.args.at c.seek-first.result.0 c.seek-first.result.1 first
    (omega (arith, c.requires.order, c.requires.within)) c.requires.measured.sizes.small in
    let less = before-mono items c.seek_end-last.result.0 c.seek-first.result.0 (omega (arith, c.if-last-first.true)) in
    omega (arith, near, less, first, c.seek_end-last.ensures, c.requires.order)

pub returns : goal.returns
returns c =
    let first = c.seek-first.ensures in
    let small = c.requires.measured.sizes.small in
    let near = place-near c.args.pieces.now.items c.args.at c.seek-first.result.0 c.seek-first.result.1 first
    (omega (arith, c.requires.order, c.requires.within)) small in
    omega (arith, near, first, c.seek_end-last.ensures, c.if-last-first.false)
