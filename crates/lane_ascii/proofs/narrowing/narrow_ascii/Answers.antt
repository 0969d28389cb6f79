use Rattle.std.proofs.Common.{◌*◌, ◌∙◌, ap, arith, drop, drop-drop, refl, sym, take}
use Rattle.std.proofs.lemmas.Simd.{length-chunk, length-put_chunk}
use Rattle.lane_ascii.{specs.Pairs.evens, proofs.Narrows.block_narrowed, proofs.Narrows.length-evens, proofs.Swaps.behind_chunk}
use Rattle.lane_ascii.proofs.narrowing.narrow_ascii.Goals as goal

pub steps-preserved : goal.steps-preserved
steps-preserved c =
    let pairs = c.args.pairs.now in
    let text = c.steps.text in
    let at = c.steps.at in
    let low = evens (take 64 (drop (2 * at) pairs)) in
    let long = length-evens 32 (take 64 (drop (2 * at) pairs)) (length-chunk (2 * at) 64 pairs (omega arith)) in
    let holds = c.if-not-is_ascii.ensures in
    rw c.low_bytes.ensures (
      block_narrowed pairs text at c.steps.invariant.0 (omega arith) (omega arith) (holds.pairs refl) (holds.ascii refl),
      omega (arith, length-put_chunk at text low),
      behind_chunk at 32 text low long (omega arith) ∙ sym (drop-drop 32 at text) ∙ ap (drop 32) c.steps.invariant.2 ∙ drop-drop 32 at c.args.text.now,
    )
