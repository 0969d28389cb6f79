use Rattle.std.proofs.Common.{◌≡◌, ap, ◌∙◌, take, map, arith, rules}
use Rattle.state_memo.specs.{Memo.spared, Slots.filled}
use Rattle.state_memo.proofs.{Filled.places-of, Filled.seen-with, Filled.filled-by, Filled.taken-by, piece.Piece.forget.Goals.After-truncate}
use Rattle.state_memo.proofs.piece.Piece.forget.Goals as goal

kept : (c : After-truncate) → c.truncate.new.self.items ≡ map filled (spared c.args.most c.args.self.now.known)
kept c =
    let here = places-of _ _ _ c.self.view_is c.self.invariant.2 in
    let same : take c.max.result c.args.self.now.known ≡ spared c.args.most c.args.self.now.known = search rules in
    c.truncate.ensures.items ∙ taken-by _ _ here c.max.result ∙ ap (map filled) same

pub invariant_of-self : goal.invariant_of-self
invariant_of-self c =
    (omega (arith, c.truncate.ensures.len, c.self.invariant.0), omega (arith, c.truncate.ensures.capacity, c.self.invariant.1), filled-by _ _ (kept c))

pub returns : goal.returns
returns c = seen-with _ c.self.inside.known.items _ c.self.view_is _ _ (kept c)
