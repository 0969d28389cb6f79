use Rattle.piece_rope.proofs.Prelude.{◌≡◌, rules, sym, subst, [], ◌∷◌, ◌++◌, Option, Some, Vec, Logs, LoggedEdit, Global}
use Rattle.piece_rope.proofs.log.log_edit.Goals as goal

pub returns-in_ok-map_err-clause-ok : goal.returns-in_ok-map_err-clause-ok
returns-in_ok-map_err-clause-ok c =
    let put : c.push.new.self.items ≡ c.in-Some.edits.items ++ c.in_ok-entry.entry ∷ [] = search rules in
    subst (λ (log : Option (Vec LoggedEdit Global)). Logs c.args.pieces.now.items c.args.tail.now c.args.edit.now log (Some c.push.new.self)) (sym c.in-Some.is)
    (c.in_ok-entry.entry, put, c.in_ok-entry.ensures)
