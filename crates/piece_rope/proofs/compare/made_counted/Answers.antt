use Rattle.piece_rope.proofs.Prelude.{rules, ◌≡◌, ◌+◌, length, slice_get, Some, None, ◌∙◌, ap, arith, Entry, Sum, here_of, edited_parts, made_pieces, element}
use Rattle.piece_rope.proofs.Parting.{made-at, made-length, scalars-next, texts-all, counted-off}
use Rattle.piece_rope.proofs.{Matching.if_none, compare.made_counted.Goals.After-len-2, compare.made_counted.Goals.In-Some}
use Rattle.piece_rope.proofs.compare.made_counted.Goals as goal

-- how many pieces are new
made : (c : After-len-2) → c.len.result + c.len-2.result ≡ length (made_pieces c.args.edited.pieces.now.items c.args.edited.edit.now)
made c =
    let fresh : c.len.result ≡ length c.args.edited.edit.now.fresh.items = search rules in
    let renewals : c.len-2.result ≡ length c.args.edited.edit.now.renewals.items = search rules in
    omega (arith, fresh, renewals, made-length c.args.edited.prepared)

-- the one that is counted
counted : (c : In-Some) → c.len.result + c.len-2.result ≡ length (made_pieces c.args.edited.pieces.now.items c.args.edited.edit.now)
    → (p : Entry) × (slice_get (made_pieces c.args.edited.pieces.now.items c.args.edited.edit.now) c.pieces.place ≡ Some p) × (c.in-Some.part.now ≡ here_of p)
counted c count =
    let ps = c.args.edited.pieces.now.items in
    let e = c.args.edited.edit.now in
    let there = element (made_pieces ps e) c.pieces.place (omega (arith, c.pieces-test.true, count)) in
    let some : Some c.in-Some.part.now ≡ Some (here_of there.0) = c.in-Some.ensures ∙ made-at c.args.edited.prepared c.pieces.place there.0 there.1 in
    (there.0, there.1, cc)

pub unreachable-requires : goal.unreachable-requires
unreachable-requires c =
    let ps = c.args.edited.pieces.now.items in
    let e = c.args.edited.edit.now in
    let there = element (made_pieces ps e) c.pieces.place (omega (arith, c.pieces-test.true, made (goal.at.unreachable-requires c).After-len-2)) in
    let none : None ≡ slice_get (edited_parts ps e) (e.first + c.pieces.place) = c.in_default.ensures in
    let clash : None ≡ Some (here_of there.0) = none ∙ made-at c.args.edited.prepared c.pieces.place there.0 there.1 in
    absurd cc

pub returns-in_err-left-clause-none : goal.returns-in_err-left-clause-none
returns-in_err-left-clause-none c =
    let x = goal.at.returns-in_err-left-clause-none c in
    let p = counted x.In-Some (made x.After-len-2) in
    if_none _ c.from_residual.result
    (counted-off (made_pieces c.args.edited.pieces.now.items c.args.edited.edit.now) c.pieces.place c.pieces.left c.args.most p.0
    c.in-Some.part.now p.1 p.2 c.pieces.invariant (rw c.sum.ensures at c.in_err-left.ensures))

pub pieces-preserved : goal.pieces-preserved
pieces-preserved c =
    let x = goal.at.pieces-preserved c in
    let p = counted x.In-Some (made x.After-len-2) in
    let next = scalars-next (made_pieces c.args.edited.pieces.now.items c.args.edited.edit.now) c.pieces.place p.0 c.in-Some.part.now p.1 p.2 in
    omega (arith, next, c.pieces.invariant, c.in_ok-left.ensures.0, c.in_ok-left.ensures.1, ap (λ (s : Sum). s.scalars) c.sum.ensures)

pub returns-clause-some : goal.returns-clause-some
returns-clause-some c =
    let count = made (goal.at.returns-clause-some c).After-len-2 in
    let pieces = made_pieces c.args.edited.pieces.now.items c.args.edited.edit.now in
    omega (arith, c.pieces.invariant, texts-all pieces c.pieces.place (omega (arith, c.pieces-test.false, count)))
