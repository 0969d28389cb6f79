use Rattle.piece_rope.proofs.Prelude.{◌≡◌, ap, sym, ◌∙◌, ◌-◌, Some, length, arith, rules, slice_get_read, Outcome}
use Rattle.piece_rope.proofs.Parting.{made-part, part-later}
use Rattle.piece_rope.proofs.edited.Edited.part.Goals as goal

pub returns-then-made-len : goal.returns-then-made-len
returns-then-made-len c =
    let e = c.args.self.now.edit.now in
    let m = c.args.place - e.first in
    let count : c.len.result ≡ length e.fresh.items = search rules in
    ap (λ (o : Outcome). Some o) c.here-then-made-len.ensures
    ∙ sym (made-part c.args.self.now.prepared c.args.place m c.index.result.now (omega (arith, c.if-place-edit.false))
    (slice_get_read e.fresh.items c.len.result m c.index.result.now count c.if-made-len.true c.index.ensures))

pub returns : goal.returns
returns c =
    let self = c.args.self.now in
    let fresh = length self.edit.now.fresh.items in
    let count : c.len.result ≡ fresh = search rules in
    let again : c.len-2.result ≡ fresh = search rules in
    c.part_behind.ensures
    ∙ sym (part-later self.prepared c.args.place (c.args.place - self.edit.now.first - c.len-2.result)
    (omega (arith, c.if-place-edit.false, c.if-made-len.false, count, again)))
