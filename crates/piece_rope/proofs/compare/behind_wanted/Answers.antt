use Rattle.std.proofs.Common.{◌≡◌, ◌-◌, ◌≤◌, ℕ, [], List, take, drop, length, ap, sym, ◌∙◌, arith}
use Rattle.piece_rope.proofs.Prelude.{chars, encode_utf8_all, IfSome_then, encodes-chars, rest_of, parts_of, edited_parts, text_in}
use Rattle.piece_rope.proofs.Comparing.{no-before, no-text, no-behind, all-three, span-within, back-from, back-enough, back-begun, if_none_then}
use Rattle.piece_rope.proofs.{Matching.if_none, Texts.text-place, compare.behind_wanted.Goals.After-seek-place}
use Rattle.piece_rope.proofs.compare.behind_wanted.Goals as goal

within : (c : After-seek-place) → c.args.span.end ≤ length (text_in (parts_of c.args.edited.pieces.now.items c.args.tail.now))
within c = span-within [] c.requires.span

-- the code points from number j on
last-is : (c : After-seek-place) → encode_utf8_all (take (c.args.span.end - c.args.j)
    (drop (c.args.j - c.seek-place.result.1.scalars) (text_in (drop c.seek-place.result.0 (parts_of c.args.edited.pieces.now.items c.args.tail.now)))))
    ≡ encode_utf8_all (take (c.args.span.end - c.args.j) (drop c.args.j (text_in (parts_of c.args.edited.pieces.now.items c.args.tail.now))))
last-is c =
    ap (λ (cs : List ℕ). encode_utf8_all (take (c.args.span.end - c.args.j) cs)) (back-from c.args.tail.now (text-place c.seek-place.ensures.place))

pub returns-in_err-rest-clause-none : goal.returns-in_err-rest-clause-none
returns-in_err-rest-clause-none c =
    if_none _ c.from_residual.result (no-before (chars c.args.text.now) c.requires.span c.in_err-rest.ensures.none)

pub returns-in_err-rest-2-clause-none : goal.returns-in_err-rest-2-clause-none
returns-in_err-rest-2-clause-none c =
    let rest = rest_of (edited_parts c.args.edited.pieces.now.items c.args.edited.edit.now) c.in_ok-rest.rest.head.now c.in_ok-rest.rest.next in
    if_none _ c.from_residual-in_err-rest-2.result
    (no-text (chars c.args.text.now) c.requires.span rest (encodes-chars c.args.text.now c.utf8.text ∙ sym c.as_bytes.ensures.value)
    c.in_ok-rest.ensures.some c.in_err-rest-2.ensures.none)

pub behind_standing-requires-2-clause-enough : goal.behind_standing-requires-2-clause-enough
behind_standing-requires-2-clause-enough c =
    let x = (goal.at.behind_standing-requires-2-clause-enough c).After-seek-place in
    back-enough c.args.tail.now (text-place c.seek-place.ensures.place) c.args.span.end c.requires.span.high (within x)

pub behind_standing-requires-2-clause-begun : goal.behind_standing-requires-2-clause-begun
behind_standing-requires-2-clause-begun c =
    let x = (goal.at.behind_standing-requires-2-clause-begun c).After-seek-place in
    back-begun c.args.tail.now (text-place c.seek-place.ensures.place) (omega (arith, within x, c.requires.span.high))

pub returns-clause-some : goal.returns-clause-some
returns-clause-some c =
    let news = edited_parts c.args.edited.pieces.now.items c.args.edited.edit.now in
    let rest = rest_of news c.in_ok-rest.rest.head.now c.in_ok-rest.rest.next in
    IfSome_then c.behind_standing-2.result c.behind_standing-2.ensures.some
    (λ left. all-three (chars c.args.text.now) c.requires.span rest (encodes-chars c.args.text.now c.utf8.text ∙ sym c.as_bytes.ensures.value)
    c.in_ok-rest.ensures.some (rest_of news left.head.now left.next) (last-is (goal.at.returns-clause-some c).After-seek-place) c.in_ok-rest-2.ensures.some)

pub returns-clause-none : goal.returns-clause-none
returns-clause-none c =
    let news = edited_parts c.args.edited.pieces.now.items c.args.edited.edit.now in
    let rest = rest_of news c.in_ok-rest.rest.head.now c.in_ok-rest.rest.next in
    let later = rest_of news c.in_ok-rest-2.rest.head.now c.in_ok-rest-2.rest.next in
    if_none_then c.behind_standing-2.result c.behind_standing-2.ensures.none
    (no-behind (chars c.args.text.now) c.requires.span rest (encodes-chars c.args.text.now c.utf8.text ∙ sym c.as_bytes.ensures.value)
    c.in_ok-rest.ensures.some later (last-is (goal.at.returns-clause-none c).After-seek-place) c.in_ok-rest-2.ensures.some)
