use Rattle.std.proofs.Common.{◌≡◌, ◌∙◌, ap, length, refl, rules, subst, sym, pos, [], Some, to_z, of_z, w16}
use Rattle.state_memo.specs.Plain.{IsTail, tail_items}
use Rattle.state_memo.proofs.{Prelude.Utf8, Prelude.chars, Prelude.plain_items_from, PlainTexts.own-part}
use Rattle.state_memo.proofs.gathering.own_items.Goals as goal

pub of-requires-clause-before : goal.of-requires-clause-before
of-requires-clause-before c = c.of-tail.ensures.before

pub of-requires-clause-tail : goal.of-requires-clause-tail
of-requires-clause-tail c =
    let text = c.as_str-bytes.result.now in
    let end : to_z w16 (of_z w16 c.in-Ok.end) ≡ pos (length text) = search rules in
    subst (IsTail c.of-tail.result) (c.as_str-bytes.ensures ∙ sym c.in_ok-share.ensures) (c.of-tail.ensures.tail [] (chars text) refl
    (own-part c.args.output text c.args.scalars (to_z w16 (of_z w16 c.in-Ok.end)) c.as_str-bytes.utf8
    (c.requires ∙ ap length (sym c.as_str-bytes.ensures)) end))

pub returns : goal.returns
returns c =
    let text = c.as_str-bytes.result.now in
    let end : to_z w16 (of_z w16 c.in-Ok.end) ≡ pos (length text) = search rules in
    c.plain.ensures ∙ c.of.ensures
    ∙ ap (tail_items (Some c.of-tail.result)) (c.in_ok-share.ensures ∙ sym c.as_str-bytes.ensures)
    ∙ c.of-tail.ensures.items [] (chars text) refl
    (own-part c.args.output text c.args.scalars (to_z w16 (of_z w16 c.in-Ok.end)) c.as_str-bytes.utf8
    (c.requires ∙ ap length (sym c.as_str-bytes.ensures)) end)
    ∙ ap (plain_items_from Utf8 (pos 0) c.args.output) c.as_str-bytes.ensures
