use Rattle.piece_rope.proofs.Prelude.{◌≡◌, rules, ap, ◌∙◌, sym, List, [], ◌∷◌, ◌++◌, slice_get, Some, arith, Entry}
use Rattle.lemmas.proofs.Lists.{taken-more}
use Rattle.piece_rope.proofs.log.shared.Goals as goal

pub pieces-preserved : goal.pieces-preserved
pieces-preserved c =
    let p = c.in_ok-piece.piece in
    let at : slice_get c.args.pieces.now.items c.pieces.index ≡ Some p = search rules in
    let put : c.push.new.self.items ≡ c.pieces.shared.items ++ p ∷ [] = search rules in
    record {
      from = omega (arith, c.pieces.invariant.from);
      to = omega (arith, c.pieces-test.true);
      shared = put
          ∙ ap (λ (xs : List Entry). xs ++ p ∷ []) c.pieces.invariant.shared
          ∙ sym (taken-more c.args.pieces.now.items c.args.first c.pieces.index p c.pieces.invariant.from at);
    }
