use Rattle.piece_rope.proofs.Prelude.{subst, List, Entry, Logs}
use Rattle.piece_rope.proofs.install.install_edit.Goals as goal

pub returns-clause-log : goal.returns-clause-log
returns-clause-log c =
    subst (λ (ps : List Entry). Logs ps c.args.tail.now c.args.edit c.args.log.now c.log_edit.new.log) c.reserve.ensures.items c.in_ok-log_edit.ensures.ok
