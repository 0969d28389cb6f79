use Rattle.piece_rope.proofs.Matching.{found-all, found-short, if_none, more-sliced, none-left, past-head, unmatched}
use Rattle.piece_rope.proofs.Prelude.{◌∙◌, sym, arith, slice_get_within}
use Rattle.piece_rope.{proofs.Wanting.few-chunks, proofs.Wanting.together-next, proofs.Parting.drop-past, specs.Ahead.chunks}
use Rattle.piece_rope.proofs.ahead.Ahead.behind.Goals as goal

pub returns-in_err-here-clause-none : goal.returns-in_err-here-clause-none
returns-in_err-here-clause-none c = if_none _ c.from_residual.result (unmatched _ _ c.chunks.invariant c.in_err-here.ensures.none)

pub returns-then-is_empty-clause-some : goal.returns-then-is_empty-clause-some
returns-then-is_empty-clause-some c =
    found-all (more-sliced _ c.chunks.invariant c.in_ok-here.ensures.some) (none-left _ (sym c.is_empty.ensures ∙ c.if-is_empty.true))

pub returns-in_err-chunk-clause-none : goal.returns-in_err-chunk-clause-none
returns-in_err-chunk-clause-none c =
    let on = past-head _ c.chunks.invariant c.in_ok-here.ensures.some (sym c.is_empty.ensures ∙ c.if-is_empty.false) in
    if_none _ c.from_residual-in_err-chunk.result
    (found-short (rw (drop-past (chunks c.args.self.now.wanted) c.chunks.next (sym c.in_err-chunk.ensures)) at on.0) on.1)

pub overflow_add-next : goal.overflow_add-next
overflow_add-next c =
    let w = c.args.self.now.wanted in
    omega (arith, few-chunks w, w.places.few, slice_get_within (chunks w) c.chunks.next c.in_ok-chunk.chunk.now (sym c.in_ok-chunk.ensures))

pub chunks-smaller : goal.chunks-smaller
chunks-smaller c = omega (arith, slice_get_within (chunks c.args.self.now.wanted) c.chunks.next c.in_ok-chunk.chunk.now (sym c.in_ok-chunk.ensures))

pub chunks-preserved : goal.chunks-preserved
chunks-preserved c =
    let on = past-head _ c.chunks.invariant c.in_ok-here.ensures.some (sym c.is_empty.ensures ∙ c.if-is_empty.false) in
    rw (together-next (chunks c.args.self.now.wanted) c.chunks.next (sym c.in_ok-chunk.ensures)) at on.0
