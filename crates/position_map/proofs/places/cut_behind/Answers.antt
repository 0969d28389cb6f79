use Rattle.std.proofs.Common.{sym, ap, ◌∙◌, Some}
use Rattle.position_map.proofs.{ItemCutting.cut-none, ItemCutting.is_inside, ItemCutting.is_cut, ItemCutting.item_there}
use Rattle.position_map.proofs.places.cut_behind.Goals as goal

pub returns-in_default : goal.returns-in_default
returns-in_default c = sym (cut-none c.args.base c.args.piece.now.items c.args.n c.requires (sym c.in_default.ensures))

pub returns-then-eq : goal.returns-then-eq
returns-then-eq c = is_inside c.args.base c.args.piece.now.items c.args.n c.in-Some.last c.item_of-2.result c.eq.result c.requires
    c.in-Some.ensures c.item_of-2.ensures c.eq.ensures c.if-eq.true

pub returns-in_default-get : goal.returns-in_default-get
returns-in_default-get c = item_there c.args.piece.now.items c.in-Some.last (c.law_items.ensures.within _ _ _ (sym c.in-Some.ensures))
    (rw c.items.ensures at c.in_default-get.ensures)

pub returns : goal.returns
returns c =
    ap Some c.cut_at.ensures
    ∙ is_cut c.args.base c.args.piece.now.items c.args.n c.in-Some.last c.item_of-2.result c.eq.result c.in-Some-get.item c.requires
    c.in-Some.ensures c.item_of-2.ensures c.eq.ensures c.if-eq.false (rw c.items.ensures at c.in-Some-get.ensures)
