use Rattle.piece_rope.proofs.Prelude.{ap, suc, ℕ, length, arith, add-one, slice_get_within, bytes_before}
use Rattle.piece_rope.proofs.{Chaining.bytes-next, Counting.before-le, Counting.sized-at}
use Rattle.piece_rope.proofs.window.seek_end.Goals as goal

pub overflow_add-behind : goal.overflow_add-behind
overflow_add-behind c =
    let items = c.args.pieces.now.items in
    let place = c.seek-place.result.0 in
    let next = bytes-next items place c.get.result.now c.get.ensures in
    omega (arith, next, before-le items (suc place), c.requires.measured.bytes, ap length c.bytes.ensures, c.seek-place.ensures.before_is)

pub returns : goal.returns
returns c =
    let items = c.args.pieces.now.items in
    let place = c.seek-place.result.0 in
    let p = c.get.result.now in
    let next = bytes-next items place p c.get.ensures in
    let inside = slice_get_within items place p c.get.ensures in
    let step = ap (λ (k : ℕ). bytes_before items k) (add-one place) in
    let small = (sized-at 1 items place p c.requires.measured.sizes.small c.get.ensures).1 in
    omega (arith, step, next, inside, ap length c.bytes.ensures, c.seek-place.ensures, c.seek-place.ensures.high inside, small)
