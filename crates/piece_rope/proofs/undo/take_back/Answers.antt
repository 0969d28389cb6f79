use Rattle.piece_rope.proofs.{Prelude.room_of, Logging.before-last, Logging.go-last, Logging.tail-last}
use Rattle.piece_rope.proofs.undo.take_back.Goals as goal

pub take_back_edit-requires-clause-goes : goal.take_back_edit-requires-clause-goes
take_back_edit-requires-clause-goes c =
    let ps = c.edits.pieces.items in
    let room = room_of c.edits.pieces in
    (go-last room ps c.pop.new.self.items c.in-Some.edit (rw c.in-Some.ensures.items at c.edits.invariant.steps)).1

pub edits-preserved : goal.edits-preserved
edits-preserved c =
    let ps = c.edits.pieces.items in
    let room = room_of c.edits.pieces in
    let es = c.pop.new.self.items in
    let e = c.in-Some.edit in
    let goes = go-last room ps es e (rw c.in-Some.ensures.items at c.edits.invariant.steps) in
    let now = c.take_back_edit.ensures.items in
    record {
      old = rw now goes.1.join;
      steps = rw (c.take_back_edit.ensures.room, now) goes.0;
      pieces = cc (now, before-last ps es e, c.in-Some.ensures.items, c.edits.invariant.pieces);
      tail = cc (c.take_back_edit.ensures.tail, tail-last c.edits.tail es e, c.in-Some.ensures.items, c.edits.invariant.tail);
    }
