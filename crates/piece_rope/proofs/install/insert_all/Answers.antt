use Rattle.piece_rope.proofs.Prelude.{◌≡◌, rules, subst, take, drop, List, [], ◌∷◌, ◌++◌, Entry, CanJoin}
use Rattle.piece_rope.proofs.Joining.{join-inserted}
use Rattle.piece_rope.proofs.install.insert_all.Goals as goal

pub put_piece-requires-clause-join : goal.put_piece-requires-clause-join
put_piece-requires-clause-join c =
    let items = c.fresh.pieces.items in
    let first = c.args.first in
    let more : c.fresh.fresh.items ≡ c.pop.new.self.items ++ c.in-Some.piece ∷ [] = search rules in
    join-inserted items c.pop.new.self.items c.in-Some.piece first
    (subst (λ (xs : List Entry). CanJoin (take first items ++ (xs ++ drop first items))) more c.fresh.invariant.join)
