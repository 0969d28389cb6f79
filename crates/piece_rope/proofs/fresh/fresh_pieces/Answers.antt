use Rattle.std.proofs.Common.{◌≡◌, rules, sym, ap, ◌∙◌, ◌+◌, ◌<◌, length, arith, [], ◌∷◌, ◌++◌, refl, length-append}
use Rattle.piece_rope.proofs.{Prelude.common_steps, Prelude.shortest, Prelude.bytes_of, Chaining.laws_of}
use Rattle.piece_rope.proofs.Editing.{sized-append, metered-step, added-length, added-bytes, added-chain, added-state, none-before}
use Rattle.lemmas.proofs.Lists.{length-snoc}
use Rattle.piece_rope.proofs.fresh.fresh_pieces.Goals as goal

pub rest-init : goal.rest-init
rest-init c = rw c.new-pieces.ensures.items (record {
  bytes = refl;
  chain = tt;
  state = sym ((laws_of _ c.requires).laws.none c.args.entry);
  small = tt;
  wide = λ _. tt;
  room = λ h _. h;
  few = λ h. (omega arith, λ l. absurd (omega (arith, l)));
  exact = omega arith;
  most = omega arith;
  least = omega arith;
})

pub rest-preserved : goal.rest-preserved
rest-preserved c =
    let laws = (laws_of _ c.requires).laws in
    let made = c.rest.pieces.items in
    let more = c.push.new.self.items in
    let p = c.in_ok-piece.piece in
    let part = c.split_at.result.0.now in
    let later = c.split_at.result.1.now in
    let rest = c.rest.rest.now in
    let more_is : more ≡ made ++ p ∷ [] = search rules in
    let long = length-snoc made more p more_is in
    let cut : rest ≡ part ++ later = c.split_at.ensures.by_index.0 in
    let cut_length : length rest ≡ length part + length later = ap length cut ∙ length-append part later in
    let own = c.in_ok-piece.ensures.bytes in
    let some : 0 < length rest = grind (arith, common_steps) in
    let part_length : length part ≡ c.part_of.result = omega arith in
    let all_length : length (bytes_of made) + length rest ≡ length c.args.bytes.now = sym (length-append (bytes_of made) rest)
    ∙ ap length c.rest.invariant.bytes in
    record {
      bytes = added-bytes made more p part later rest c.args.bytes.now more_is own cut c.rest.invariant.bytes;
      chain = added-chain laws c.args.entry c.rest.state made more p part more_is own c.rest.invariant.chain c.rest.invariant.state
          c.in_ok-piece.ensures.entry c.in_ok-piece.ensures.own;
      state = added-state laws c.args.entry c.rest.state c.in_ok-piece.exit made more p part more_is own c.rest.invariant.state c.in_ok-piece.ensures.exit;
      small = rw more_is (sized-append 1 made (p ∷ []) c.rest.invariant.small
          (rw own (omega (arith, part_length, c.part_of.ensures.some some)), rw own (omega (arith, part_length, c.part_of.ensures.small)), tt));
      wide = λ h. rw more_is
          (sized-append shortest made (p ∷ []) (c.rest.invariant.wide h) (
            rw own (omega (arith, part_length, c.part_of.ensures.wide (c.rest.invariant.room h some))),
            rw own (omega (arith, part_length, c.part_of.ensures.small)),
            tt,
          ));
      room = λ h l. omega (arith, c.part_of.ensures.rest (c.rest.invariant.room h some) (omega (arith, l, cut_length, part_length)), cut_length, part_length);
      few = λ h.
          let none : length made ≡ 0 = none-before (length made) (length rest) some (c.rest.invariant.few h).1 in
          let whole = c.part_of.ensures.whole (omega (arith, h, all_length)) in
          (omega (arith, long, none), λ _. omega (arith, whole, cut_length, part_length));
      exact = metered-step c.args.meter.now (length (bytes_of made)) (length part) (length (bytes_of more)) c.rest.meter c.new.new.meter
          c.rest.invariant.exact c.in_ok-piece.ensures.meter (added-length made more p part more_is own);
      most = omega (arith, c.rest.invariant.most, cut_length, c.in_ok-piece.ensures.meter_most);
      least = omega (arith, c.rest.invariant.least, c.in_ok-piece.ensures.meter_least);
    }
