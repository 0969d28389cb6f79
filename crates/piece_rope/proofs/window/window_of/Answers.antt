use Rattle.piece_rope.proofs.Prelude.{◌≡◌, ◌≤◌, ap, ◌-◌, ◌+◌, suc, ℕ, length, arith, add-one, slice_get_within, shortest, bytes_before}
use Rattle.piece_rope.proofs.{Chaining.bytes-next, Counting.before-le, Counting.before-all, Counting.before-step, Counting.sized-at}
use Rattle.piece_rope.proofs.window.window_of.Goals as goal

-- one piece more before those that the edit touches
before : (c : goal.After-bytes)
    → c.touched-touched.result.start ≡ bytes_before c.args.pieces.now.items (c.touched-touched.result.first - 1) + length c.bytes.result.now
before c =
    let first = c.touched-touched.result.first in
    let back : suc (first - 1) ≡ first = omega (arith, c.if-first-gt0.true) in
    let next = bytes-next c.args.pieces.now.items (first - 1) c.get.result.now c.get.ensures in
    omega (arith, next, ap (λ (k : ℕ). bytes_before c.args.pieces.now.items k) back, ap length c.bytes.ensures, c.touched-touched.ensures.start)

-- and one more after them
behind : (c : goal.After-bytes-then-last-count) → c.touched-touched.result.end + length c.bytes-then-last-count.result.now
    ≡ bytes_before c.args.pieces.now.items (suc c.touched-touched.result.last)
behind c =
    let next = bytes-next c.args.pieces.now.items c.touched-touched.result.last c.get-then-last-count.result.now c.get-then-last-count.ensures in
    omega (arith, next, ap length c.bytes-then-last-count.ensures, c.touched-touched.ensures.end)

pub returns-then-count-le1-clause-spans : goal.returns-then-count-le1-clause-spans
returns-then-count-le1-clause-spans c =
    let items = c.args.pieces.now.items in
    let w = c.whole.ensures in
    let few : length items ≤ 1 = omega (arith, c.len-count.ensures, c.if-count-le1.true) in
    let all = before-all items 1 few in
    let short = before-step items 0 c.requires.measured.sizes.small in
    let last = before-all items c.whole.result.last (omega (arith, w.last)) in
    let zero : bytes_before items c.whole.result.first ≡ 0 = ap (λ (k : ℕ). bytes_before items k) w.first in
    omega (arith, w, zero, last, all, short, c.requires.order, c.requires.within)

pub overflow_sub-start : goal.overflow_sub-start
overflow_sub-start c = omega (arith, before c)

pub returns-then-first-gt0-clause-spans : goal.returns-then-first-gt0-clause-spans
returns-then-first-gt0-clause-spans c =
    let small = c.requires.measured.sizes.small in
    let short = (sized-at 1 c.args.pieces.now.items (c.touched-touched.result.first - 1) c.get.result.now small c.get.ensures).1 in
    omega (arith, c.touched-touched.ensures, before c, ap length c.bytes.ensures, short)

pub returns-then-first-gt0-clause-roomy : goal.returns-then-first-gt0-clause-roomy
returns-then-first-gt0-clause-roomy c =
    let items = c.args.pieces.now.items in
    let many : 2 ≤ length items = omega (arith, c.len-count.ensures, c.if-count-le1.false) in
    let wide = (sized-at shortest items (c.touched-touched.result.first - 1) c.get.result.now (c.requires.measured.sizes.wide many) c.get.ensures).0 in
    omega (arith, many, wide, ap length c.bytes.ensures, c.touched-touched.ensures.front, before c)

pub overflow_add-end : goal.overflow_add-end
overflow_add-end c =
    let end = behind c in
    omega (arith, end, before-le c.args.pieces.now.items (suc c.touched-touched.result.last), c.requires.measured.bytes)

pub returns-then-last-count-clause-spans : goal.returns-then-last-count-clause-spans
returns-then-last-count-clause-spans c =
    let items = c.args.pieces.now.items in
    let last = c.touched-touched.result.last in
    let p = c.get-then-last-count.result.now in
    let short = (sized-at 1 items last p c.requires.measured.sizes.small c.get-then-last-count.ensures).1 in
    let inside = slice_get_within items last p c.get-then-last-count.ensures in
    let step = ap (λ (k : ℕ). bytes_before items k) (add-one last) in
    omega (arith, c.touched-touched.ensures, behind c, step, inside, ap length c.bytes-then-last-count.ensures, short)

pub returns-then-last-count-clause-roomy : goal.returns-then-last-count-clause-roomy
returns-then-last-count-clause-roomy c =
    let items = c.args.pieces.now.items in
    let many : 2 ≤ length items = omega (arith, c.len-count.ensures, c.if-count-le1.false) in
    let wide = (sized-at shortest items c.touched-touched.result.last c.get-then-last-count.result.now
    (c.requires.measured.sizes.wide many) c.get-then-last-count.ensures).0 in
    omega (arith, many, wide, ap length c.bytes-then-last-count.ensures, c.touched-touched.ensures.back)
