use Rattle.piece_rope.proofs.Prelude.{◌≡◌, ap, ◌∙◌, suc, ◌+◌, ◌-◌, ◌<◌, ℕ, length, take, drop, arith, ◌++◌, refl, length-remove}
use Rattle.piece_rope.proofs.{Editing.removed-range, Joining.join-remove}
use Rattle.piece_rope.proofs.install.remove_range.Goals as goal

pub range-preserved : goal.range-preserved
range-preserved c =
    let items = c.range.pieces.items in
    let inside : c.args.first < length items = omega (arith, c.range.invariant.within, c.range-test.true) in
    let size = ap length c.take_piece.ensures.items ∙ refl in
    let more : suc (c.args.first + (c.range.left - 1)) ≡ c.args.first + c.range.left = omega (arith, c.range-test.true) in
    record {
      within = omega (arith, size, length-remove items c.args.first inside, c.range.invariant.within, c.range-test.true);
      items = rw c.take_piece.ensures.items (removed-range items c.args.first (c.args.first + (c.range.left - 1)) inside (omega arith))
          ∙ ap (λ (n : ℕ). take c.args.first items ++ drop n items) more ∙ c.range.invariant.items;
      spare = omega (arith, c.take_piece.ensures.spare, c.range.invariant.spare, c.range-test.true);
      old = rw c.take_piece.ensures.items (join-remove c.args.first items inside c.range.invariant.old);
    }

pub take_piece-requires-clause-join : goal.take_piece-requires-clause-join
take_piece-requires-clause-join c =
    join-remove c.args.first c.range.pieces.items (omega (arith, c.range.invariant.within, c.range-test.true)) c.range.invariant.old
