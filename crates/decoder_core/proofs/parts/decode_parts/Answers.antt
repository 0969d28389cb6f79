use Rattle.std.proofs.Common.{◌≡◌, ◌+◌, ◌<◌, ◌^◌, [], length, sym, ap, ◌∙◌, arith, append-nil, length-append}
use Rattle.decoder_core.proofs.{Prelude.Collected, Prelude.seen_of, Collecting.collect-shown, Collecting.part-done}
use Rattle.decoder_core.proofs.parts.decode_parts.Goals as goal

pub parts-init : goal.parts-init
parts-init g c = record {
  base = omega arith;
  items = rw (c.new.ensures.items, c.start-state.ensures);
  meter = omega arith;
  least = omega arith;
}

pub parts-preserved : goal.parts-preserved
parts-preserved g c =
    let ends = g.met.D.Decoder.ends c.args.decoder.now in
    let part = c.split_at.result.0.now in
    let later = c.split_at.result.1.now in
    let cut = c.split_at.ensures.by_index.0 in
    let long : length c.parts.rest.now ≡ length part + length later = rw cut (length-append part later) in
    let base : c.decode_part.new.collector.base ≡ c.parts.collector.base + length part = ap (λ (x : Collected). x.base) c.in_ok-state.ensures.items in
    let whole : c.parts.collector.base + length part + length later ≡ length c.args.bytes.now = omega arith in
    record {
      base = omega arith;
      items =
          part-done ends (length c.args.bytes.now) c.parts.state c.in_ok-state.state c.parts.rest.now part later
          (seen_of c.parts.collector) (seen_of c.decode_part.new.collector)
          cut whole c.in_ok-state.ensures.state c.in_ok-state.ensures.items
          ∙ c.parts.invariant.items;
      meter = omega (arith, c.in_ok-state.ensures.meter, c.parts.invariant.meter, base);
      least = omega arith;
    }

pub returns-clause-items : goal.returns-clause-items
returns-clause-items g c =
    let ends = g.met.D.Decoder.ends c.args.decoder.now in
    let total = length c.args.bytes.now in
    let old = seen_of c.parts.collector in
    let new = seen_of c.decode_part-2.new.collector in
    let after = c.in_ok-state-2.state in
    let base : new.base ≡ total = ap (λ (x : Collected). x.base) c.in_ok-state-2.ensures.items ∙ c.parts.invariant.base in
    let whole : c.parts.collector.base + length c.parts.rest.now + 0 ≡ total = omega arith in
    let bound : new.base + 0 < 2 ^ 64 = omega arith in
    let given = ap (λ (x : Collected). x.all) (c.in_ok-give.ensures.ok ∙ collect-shown 0 after c.as_slice.result.now new bound) in
    let none : new.base + 0 ≡ total = omega arith in
    (rw (c.as_slice.ensures, c.finish-last.ensures.items, none) at given)
    ∙ part-done ends total c.parts.state after c.parts.rest.now c.parts.rest.now [] old new
    (sym (append-nil c.parts.rest.now)) whole c.in_ok-state-2.ensures.state c.in_ok-state-2.ensures.items
    ∙ c.parts.invariant.items
