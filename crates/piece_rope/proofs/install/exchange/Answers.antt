use Rattle.piece_rope.proofs.Prelude.{sym, ap, ◌∙◌, subst, List, length, arith, Entry, CanJoin}
use Rattle.piece_rope.proofs.Editing.{IsCut, all-put, join-put, long-all, long-front, long-left, long-put}
use Rattle.piece_rope.proofs.install.exchange.Goals.{After-remove_range}
use Rattle.piece_rope.proofs.install.exchange.Goals as goal

cut : (c : After-remove_range)
    → IsCut c.args.pieces.now.items c.args.fresh.items c.remove_range.new.pieces.items c.args.first c.args.last c.min-both.result
cut c = record { order = c.requires.order; within = c.requires.within; count = omega arith; now_is = c.remove_range.ensures.items }

pub put_run-requires-clause-within : goal.put_run-requires-clause-within
put_run-requires-clause-within c = long-left (cut (goal.at.put_run-requires-clause-within c).After-remove_range)

pub put_run-requires-clause-join : goal.put_run-requires-clause-join
put_run-requires-clause-join c = join-put (cut (goal.at.put_run-requires-clause-join c).After-remove_range) c.requires.new

pub insert_all-requires-clause-within : goal.insert_all-requires-clause-within
insert_all-requires-clause-within c = long-put (cut (goal.at.insert_all-requires-clause-within c).After-remove_range) c.put_run.ensures.items

pub insert_all-requires-clause-room : goal.insert_all-requires-clause-room
insert_all-requires-clause-room c =
    let front = long-front (cut (goal.at.insert_all-requires-clause-room c).After-remove_range) in
    omega (arith, ap length c.put_run.ensures.rest, c.put_run.ensures.spare, c.remove_range.ensures.spare)

pub insert_all-requires-clause-join : goal.insert_all-requires-clause-join
insert_all-requires-clause-join c =
    let x = (goal.at.insert_all-requires-clause-join c).After-remove_range in
    subst (λ (xs : List Entry). CanJoin xs) (sym (all-put (cut x) c.put_run.ensures.items c.put_run.ensures.rest)) c.requires.new

pub returns-clause-items : goal.returns-clause-items
returns-clause-items c =
    let x = (goal.at.returns-clause-items c).After-remove_range in
    c.insert_all.ensures.items ∙ all-put (cut x) c.put_run.ensures.items c.put_run.ensures.rest

pub returns-clause-room : goal.returns-clause-room
returns-clause-room c =
    let x = (goal.at.returns-clause-room c).After-remove_range in
    let all = c.insert_all.ensures.items ∙ all-put (cut x) c.put_run.ensures.items c.put_run.ensures.rest in
    let front = long-front (cut x) in
    let whole = long-all (cut x) in
    omega (arith, ap length all, ap length c.put_run.ensures.rest, c.insert_all.ensures.spare, c.put_run.ensures.spare, c.remove_range.ensures.spare)
