use Rattle.std.proofs.Common.{◌≡◌, ap, ◌∙◌, take, map, arith}
use Rattle.state_memo.specs.Slots.{filled}
use Rattle.state_memo.proofs.{Prelude.without, Filled.places-of, Filled.seen-with, Filled.filled-by, Filled.few-by, Filled.taken-by, Filled.removed-by}
use Rattle.state_memo.proofs.{Places.room-found, Places.room-absent, piece.Piece.make_room.Goals.After-drop, piece.Piece.make_room.Goals.After-truncate}
use Rattle.state_memo.proofs.piece.Piece.make_room.Goals as goal

removed : (c : After-drop) → c.remove.new.self.items ≡ map filled (take 3 (without c.args.self.now.known c.args.state))
removed c =
    let here = places-of _ _ _ c.self.view_is c.self.invariant.2 in
    c.remove.ensures.items ∙ removed-by _ _ here c.in-Some.place
    ∙ ap (map filled) (room-found _ c.args.state c.in-Some.place c.in-Some.ensures.found (few-by _ _ here c.self.invariant.0))

kept : (c : After-truncate) → c.truncate.new.self.items ≡ map filled (take 3 (without c.args.self.now.known c.args.state))
kept c =
    let here = places-of _ _ _ c.self.view_is c.self.invariant.2 in
    c.truncate.ensures.items ∙ taken-by _ _ here 3 ∙ ap (map filled) (room-absent c.args.self.now.known c.args.state c.in-None.ensures.none)

pub invariant_of-self : goal.invariant_of-self
invariant_of-self c =
    (omega (arith, c.remove.ensures.len, c.self.invariant.0), omega (arith, c.remove.ensures.capacity, c.self.invariant.1), filled-by _ _ (removed c))

pub returns-in-Some : goal.returns-in-Some
returns-in-Some c = seen-with _ c.self.inside.known.items _ c.self.view_is _ _ (removed c)

pub invariant_of-self-in-None : goal.invariant_of-self-in-None
invariant_of-self-in-None c =
    (omega (arith, c.truncate.ensures.len, c.self.invariant.0), omega (arith, c.truncate.ensures.capacity, c.self.invariant.1), filled-by _ _ (kept c))

pub returns-in-None : goal.returns-in-None
returns-in-None c = seen-with _ c.self.inside.known.items _ c.self.view_is _ _ (kept c)
