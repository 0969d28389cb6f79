use Rattle.piece_rope.proofs.Prelude.{◌≡◌, ◌+◌, ◌++◌, drop, sym, ◌∙◌, arith, encode_utf8_all, slice_get_within, edited_parts, text_in}
use Rattle.piece_rope.proofs.Matching.{unmatched, more-sliced, found-all, found-short, if_none, none-left, past-head}
use Rattle.piece_rope.proofs.Parting.{bytes-next-part, drop-past, few-parts}
use Rattle.piece_rope.proofs.rest.behind.Goals as goal

pub returns-in_err-here-clause-none : goal.returns-in_err-here-clause-none
returns-in_err-here-clause-none c = if_none _ c.from_residual.result (unmatched _ _ c.parts.invariant c.in_err-here.ensures.none)

pub returns-then-is_empty-clause-some : goal.returns-then-is_empty-clause-some
returns-then-is_empty-clause-some c =
    found-all (more-sliced _ c.parts.invariant c.in_ok-here.ensures.some) (none-left _ (sym c.is_empty.ensures ∙ c.if-is_empty.true))

pub returns-in_err-part-clause-none : goal.returns-in_err-part-clause-none
returns-in_err-part-clause-none c =
    let parts = edited_parts c.args.edited.pieces.now.items c.args.edited.edit.now in
    let on = past-head _ c.parts.invariant c.in_ok-here.ensures.some (sym c.is_empty.ensures ∙ c.if-is_empty.false) in
    if_none _ c.from_residual-in_err-part.result (found-short (rw (drop-past parts c.parts.next (sym c.in_err-part.ensures)) at on.0) on.1)

pub overflow_add-next : goal.overflow_add-next
overflow_add-next c =
    let parts = edited_parts c.args.edited.pieces.now.items c.args.edited.edit.now in
    let within = slice_get_within parts c.parts.next c.in_ok-part.field-0.now (sym c.in_ok-part.ensures) in
    omega (arith, within, few-parts c.args.edited.prepared)

pub parts-smaller : goal.parts-smaller
parts-smaller c =
    let parts = edited_parts c.args.edited.pieces.now.items c.args.edited.edit.now in
    omega (arith, slice_get_within parts c.parts.next c.in_ok-part.field-0.now (sym c.in_ok-part.ensures))

pub parts-preserved : goal.parts-preserved
parts-preserved c =
    let parts = edited_parts c.args.edited.pieces.now.items c.args.edited.edit.now in
    let on = past-head _ c.parts.invariant c.in_ok-here.ensures.some (sym c.is_empty.ensures ∙ c.if-is_empty.false) in
    let behind = bytes-next-part parts c.parts.next c.in_ok-part.field-0.now c.as_str.result.now (sym c.in_ok-part.ensures) c.as_str.utf8
    (c.as_str.ensures ∙ c.text.ensures) in
    let next : encode_utf8_all (text_in (drop c.parts.next parts))
    ≡ c.as_bytes-head.result.now ++ encode_utf8_all (text_in (drop (c.parts.next + 1) parts)) = cc (behind, c.as_bytes-head.ensures.value) in
    rw next at on.0
