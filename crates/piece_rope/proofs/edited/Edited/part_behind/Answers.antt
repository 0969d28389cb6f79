use Rattle.piece_rope.proofs.Prelude.{◌≡◌, ap, sym, ◌∙◌, Some, drop, length, arith, length-drop, rules, slice_get_read, Outcome, element}
use Rattle.piece_rope.proofs.Parting.{none-later, renewed-part, same-part}
use Rattle.piece_rope.proofs.edited.Edited.part_behind.Goals as goal

pub returns-then-place-len : goal.returns-then-place-len
returns-then-place-len c =
    let ps = c.args.self.now.pieces.now.items in
    let e = c.args.self.now.edit.now in
    let n = c.args.place in
    let count : c.len.result ≡ length e.renewals.items = search rules in
    let there = element (drop e.last ps) n (omega (arith, length-drop e.last ps, c.args.self.now.prepared.within, c.if-place-len.true, count)) in
    ap (λ (o : Outcome). Some o) c.here.ensures
    ∙ sym (renewed-part c.args.self.now.prepared n there.0 c.index.result.now there.1
    (slice_get_read e.renewals.items c.len.result n c.index.result.now count c.if-place-len.true c.index.ensures))

pub returns-then-place-count : goal.returns-then-place-count
returns-then-place-count c =
    let last = c.args.self.now.edit.now.last in
    sym (none-later c.args.self.now.prepared c.args.place
    (omega (arith, length-drop last c.args.self.now.pieces.now.items, c.if-place-count.true, c.len-count.ensures)))

pub returns : goal.returns
returns c =
    let self = c.args.self.now in
    let count : c.len.result ≡ length self.edit.now.renewals.items = search rules in
    c.part_at.ensures ∙ sym (same-part self.prepared c.args.place (omega (arith, c.if-place-len.false, count)))
