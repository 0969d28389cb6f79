use Rattle.piece_rope.proofs.Prelude.{◌≡◌, ◌+◌, ◌-◌, length, ap, arith, chars, Sum, rest_of, parts_of, edited_parts, text_in}
use Rattle.piece_rope.proofs.Comparing.{decided, numbers-differ, span-found, span-not-found}
use Rattle.piece_rope.proofs.{Joining.whole-few, Parting.whole-scalars}
use Rattle.piece_rope.proofs.compare.keeps_text.Goals as goal

pub overflow_sub-wanted-2 : goal.overflow_sub-wanted-2
overflow_sub-wanted-2 c = omega (arith, whole-scalars c.args.edited.pieces.now.items c.args.tail.now c.whole_sum.ensures, c.requires.within)

pub overflow_add-wanted : goal.overflow_add-wanted
overflow_add-wanted c =
    let few = whole-few c.args.tail.now c.requires.few c.requires.tail in
    let own = ap (λ (s : Sum). s.scalars) c.whole_sum.ensures in
    omega (arith, few, own, c.scalar_count.ensures.few)

pub returns-then-not-has_scalars : goal.returns-then-not-has_scalars
returns-then-not-has_scalars c =
    let ps = c.args.edited.pieces.now.items in
    let tail = c.args.tail.now in
    let all = whole-scalars ps tail c.whole_sum.ensures in
    let differ = numbers-differ (text_in (parts_of ps tail)) (text_in (edited_parts ps c.args.edited.edit.now))
    (chars c.args.text.now) c.args.i c.args.j c.requires.order c.requires.within
    (λ same. let yes = c.has_scalars.ensures.1
    (omega (arith, same, all, c.scalar_count.ensures.count, c.requires.order, c.requires.within)) in let no = c.if-not-has_scalars.true in cc) in
    ((λ no. absurd cc), (λ kept. absurd (differ kept)))

pub returns : goal.returns
returns c =
    let ps = c.args.edited.pieces.now.items in
    let tail = c.args.tail.now in
    let olds = parts_of ps tail in
    let news = edited_parts ps c.args.edited.edit.now in
    let put = chars c.args.text.now in
    let all = whole-scalars ps tail c.whole_sum.ensures in
    let number = c.has_scalars.ensures.0 c.if-not-has_scalars.false in
    let count : length (text_in news) + (c.args.j - c.args.i) ≡ length (text_in olds) + length put =
    omega (arith, number, all, c.scalar_count.ensures.count, c.requires.order, c.requires.within) in
    decided c.behind_wanted.result c.is_some.result _ _ _ c.is_some.ensures c.behind_wanted.ensures.some c.behind_wanted.ensures.none
    (λ left. span-found put c.compared-span.ensures c.requires.order count
    (rest_of news left.head.now left.next))
    (span-not-found put c.compared-span.ensures)
