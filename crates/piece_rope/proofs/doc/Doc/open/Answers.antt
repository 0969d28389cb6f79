use Rattle.piece_rope.proofs.Prelude.{ap, sym, ◌∙◌, ◌≤◌, length, arith, is_some, bytes_of, document_limit, IsRope}
use Rattle.piece_rope.proofs.{Chaining.laws_of, Keeping.join-rope, Keeping.kept-rope, Keeping.new-rope}
use Rattle.piece_rope.proofs.{Remembering.ending-exit, Remembering.ending-own, doc.Doc.open.Goals.In_ok-fresh}
use Rattle.piece_rope.proofs.doc.Doc.open.Goals as goal

-- the pieces that were made
rope : (c : In_ok-fresh) → IsRope c.in_ok-decoder.decoder c.in_ok-fresh.fresh.pieces.items c.in_ok-fresh.fresh.exit
rope c =
    let f = c.in_ok-fresh.ensures in
    new-rope c.in_ok-decoder.decoder c.start_of.result c.in_ok-fresh.fresh.exit c.args.bytes.now c.in_ok-fresh.fresh.pieces.items
    c.start_of.ensures f.bytes f.chain f.exit f.small f.wide f.few

within : (c : In_ok-fresh) → length (bytes_of c.in_ok-fresh.fresh.pieces.items) ≤ document_limit
within c = omega (arith, ap length c.in_ok-fresh.ensures.bytes, c.if-bytes-gt-DOCUMENT_LIMIT.false)

pub built-requires : goal.built-requires
built-requires c =
    let x = (goal.at.built-requires c).In_ok-fresh in
    join-rope (laws_of _ c.law_decoder.ensures).laws (rope x) (within x)

pub invariant_of-result : goal.invariant_of-result
invariant_of-result c =
    let x = (goal.at.invariant_of-result c).In_ok-fresh in
    let d = c.in_ok-decoder.decoder in
    let exit = c.in_ok-fresh.fresh.exit in
    let tail = c.in_ok-tail.tail in
    let scratch = rw c.in_ok-decoder.ensures.ok_part at c.under.ensures.decode in
    let chosen = sym c.under.ensures.value ∙ c.in_ok-decoder.ensures.ok_part in
    let can = sym c.under.ensures.variant ∙ ap is_some c.in_ok-decoder.ensures.ok_part in
    let own : IsRope d c.in_ok-fresh.fresh.pieces.items tail.exit = rw (ending-exit d exit tail c.in_ok-tail.ensures) (rope x) in
    let end = ending-own d exit tail c.in_ok-tail.ensures in
    record { kept = rw c.in_ok-pieces.ensures (kept-rope (laws_of d c.law_decoder.ensures) chosen can (within x) own end scratch); back = tt }
