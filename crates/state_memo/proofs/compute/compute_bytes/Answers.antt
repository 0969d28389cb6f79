use Rattle.std.proofs.Common.{◌≡◌, refl, rules, sym, List, ℕ}
use Rattle.decoder_core.specs.{Queue.feed, Shown.shown_from}
use Rattle.codec.specs.{Any.AnyDecoding, Any.any, declared.state.AnyState.AnyState}
use Rattle.state_memo.specs.Outcome.{outcome_of}
use Rattle.state_memo.proofs.compute.compute_bytes.Goals as goal

-- what is shown and the state after the bytes are all that an outcome is made of
same-outcome : (d : AnyDecoding) (bytes : List ℕ) (s t : AnyState) → shown_from (any d) 0 s bytes ≡ shown_from (any d) 0 t bytes
    → (feed (any d) s bytes).state ≡ (feed (any d) t bytes).state → outcome_of d s bytes ≡ outcome_of d t bytes
unfolding outcome_of
same-outcome d bytes s t shown exit = rw shown (rw exit refl)

pub returns-clause-outcome : goal.returns-clause-outcome
returns-clause-outcome c =
    let bytes = c.args.bytes.now.value.items in
    let slice : c.as_slice.result.now ≡ bytes = search rules in
    let same = same-outcome c.args.decoder.now bytes c.without_look-state.result c.args.entry (rw slice at (c.without_look-state.ensures.shown 0))
    (rw slice at c.without_look-state.ensures.exit) in
    rw (sym same) c.compute_from.ensures.outcome
