use Rattle.piece_rope.proofs.Prelude.{rules, ◌≡◌, ◌<◌, length, arith, suc, refl, Bool, true, false, not, same_state}
use Rattle.piece_rope.proofs.{Parting.whole-scalars, Spanning.span-agreed, Spanning.span-to-end, Spanning.texts-grow, Texts.text-place}
use Rattle.piece_rope.proofs.compare.compared.Goals as goal

equal : (x y : Bool) → x ≡ not y → x ≡ false → y ≡ true
equal x true e f = refl
equal x false e f = absurd cc

pub returns-then-to-len : goal.returns-then-to-len
returns-then-to-len c =
    let tail = c.args.tail.now in
    let whole = whole-scalars c.args.edited.pieces.now.items tail c.whole_sum-end.ensures in
    span-to-end c.args.edited.prepared tail c.min-first.result c.whole_sum-end.result.scalars c.args.j (omega (arith, c.min-first.ensures))
    c.scalars_in-before.ensures (text-place c.seek-from.ensures.place) (omega (arith, c.min-first.ensures)) (omega (arith, whole, c.requires.within)) whole

pub returns : goal.returns
returns c =
    let ps = c.args.edited.pieces.now.items in
    let e = c.args.edited.edit.now in
    let tail = c.args.tail.now in
    let fits = c.args.edited.prepared in
    let to = text-place c.seek-to.ensures.place in
    let inside : c.seek-to.result.0 < length ps = omega (arith, to.within, c.if-to-len.false, c.len.ensures) in
    let renewals : c.len-2.result ≡ length e.renewals.items = search rules in
    let alike = equal c.ne.result (same_state c.exit.result c.exit-else-to-len.result) c.ne.ensures c.if-ne.false in
    let same : e.tail.exit ≡ tail.exit = fits.exact e.tail.exit tail.exit (rw (c.exit.ensures, c.exit-else-to-len.ensures) at alike) in
    let grown = texts-grow ps (suc c.seek-to.result.0) c.max.result (omega (arith, c.max.ensures)) in
    span-agreed fits tail c.min-first.result c.scalars_in-end.result c.args.j (omega (arith, c.min-first.ensures)) c.scalars_in-before.ensures
    (text-place c.seek-from.ensures.place) (omega (arith, c.min-first.ensures)) (omega (arith, c.scalars_in-end.ensures, grown, to.high inside))
    c.max.result (omega (arith, c.max.ensures, renewals)) (omega (arith, c.max.ensures, renewals, fits.within, inside))
    c.scalars_in-end.ensures (c.requires.ends same)
