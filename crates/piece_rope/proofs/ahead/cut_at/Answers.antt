use Rattle.piece_rope.proofs.Prelude.{◌≤◌, ◌+◌, ◌-◌, sym, ap, ◌∙◌, arith, chars, drop, encodes-append, encodes-chars, le-leb, length, parts_of, take, text_in}
use Rattle.piece_rope.proofs.{Comparing.back-begun, Texts.text-place, Wanting.cut-back, Wanting.cut-front, ahead.cut_at.Goals.In-Some}
use Rattle.piece_rope.proofs.ahead.cut_at.Goals as goal

begun : (c : In-Some) → c.args.n - c.seek-place.result.1.scalars ≤ length c.in-Some.part.now.text
begun c = back-begun c.args.tail.now (text-place c.seek-place.ensures.place) c.requires c.in-Some.part.now (sym c.in-Some.ensures)

pub unreachable-requires-in_default-split_at_scalar : goal.unreachable-requires-in_default-split_at_scalar
unreachable-requires-in_default-split_at_scalar c =
    let x = (goal.at.unreachable-requires-in_default-split_at_scalar c).In-Some in
    let yes = le-leb (c.args.n - c.seek-place.result.1.scalars) (length (chars c.as_str.result.now))
    (omega (arith, begun x, ap length (c.as_str.ensures ∙ c.text.ensures))) in
    let no = c.in_default-split_at_scalar.ensures.variant in
    cc

pub returns-clause-front : goal.returns-clause-front
returns-clause-front c =
    let x = (goal.at.returns-clause-front c).In-Some in
    let front = text_in (take c.seek-place.result.0 (parts_of c.args.pieces.now.items c.args.tail.now)) in
    let cut = cut-front c.args.tail.now (text-place c.seek-place.ensures.place) (sym c.in-Some.ensures) (begun x) in
    let two = encodes-append front (take (c.args.n - c.seek-place.result.1.scalars) c.in-Some.part.now.text) in
    cc (cut, two, c.as_str.ensures ∙ c.text.ensures, c.in-Some-split_at_scalar.ensures.bytes, c.as_bytes.ensures.value)

pub returns-clause-back : goal.returns-clause-back
returns-clause-back c =
    let x = (goal.at.returns-clause-back c).In-Some in
    let rest = text_in (drop (c.seek-place.result.0 + 1) (parts_of c.args.pieces.now.items c.args.tail.now)) in
    let cut = cut-back c.args.tail.now (text-place c.seek-place.ensures.place) (sym c.in-Some.ensures) (begun x) in
    let two = encodes-append (drop (c.args.n - c.seek-place.result.1.scalars) c.in-Some.part.now.text) rest in
    let own = encodes-chars c.as_bytes-2.result.now c.as_bytes-2.ensures.utf8 in
    cc (cut, two, c.as_str.ensures ∙ c.text.ensures, c.in-Some-split_at_scalar.ensures.back, c.as_bytes-2.ensures.value, own)
