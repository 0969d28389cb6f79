use Rattle.piece_rope.proofs.Prelude.{rules, sym, ◌∙◌, subst, List, arith, Entry, CanJoin}
use Rattle.piece_rope.proofs.{Editing.IsInstall, Editing.all-made, Editing.join-later, Editing.long-later, install.install.Goals.After-len}
use Rattle.piece_rope.proofs.install.install.Goals as goal

install : (c : After-len) → IsInstall c.args.pieces.now.items c.args.fresh.items c.args.renewals.items c.args.first c.args.last c.len.result
install c = record {
  order = c.requires.order;
  within = c.requires.within;
  count = search rules;
  are = c.requires.kept;
  old = c.requires.old;
  new = c.requires.new;
}

pub exchange-requires-clause-new : goal.exchange-requires-clause-new
exchange-requires-clause-new c = join-later (install (goal.at.exchange-requires-clause-new c).After-len)

pub exchange-requires-2-clause-within : goal.exchange-requires-2-clause-within
exchange-requires-2-clause-within c =
    let long = long-later (install (goal.at.exchange-requires-2-clause-within c).After-len) c.exchange.ensures.items in
    omega (arith, c.requires.within)

pub exchange-requires-2-clause-room : goal.exchange-requires-2-clause-room
exchange-requires-2-clause-room c =
    let long = long-later (install (goal.at.exchange-requires-2-clause-room c).After-len) c.exchange.ensures.items in
    omega (arith, c.exchange.ensures.room, c.requires.room)

pub exchange-requires-2-clause-old : goal.exchange-requires-2-clause-old
exchange-requires-2-clause-old c = rw c.exchange.ensures.items (join-later (install (goal.at.exchange-requires-2-clause-old c).After-len))

pub exchange-requires-2-clause-new : goal.exchange-requires-2-clause-new
exchange-requires-2-clause-new c =
    let x = (goal.at.exchange-requires-2-clause-new c).After-len in
    subst (λ (xs : List Entry). CanJoin xs) (sym (all-made (install x) c.exchange.ensures.items)) c.requires.new

pub returns-clause-items : goal.returns-clause-items
returns-clause-items c =
    let x = (goal.at.returns-clause-items c).After-len in
    c.exchange-2.ensures.items ∙ all-made (install x) c.exchange.ensures.items
