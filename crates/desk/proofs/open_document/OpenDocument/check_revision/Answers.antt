use Rattle.desk.proofs.{Prelude.sym, Prelude.Ok, Prelude.entry_of, Edits.revision_named, Edits.revision_spent, Edits.revision_stale}
use Rattle.desk.proofs.open_document.OpenDocument.check_revision.Goals as goal

pub returns-then-rev-self : goal.returns-then-rev-self
returns-then-rev-self c = sym (revision_stale (entry_of c.args.self.now) c.args.rev (Ok tt) c.if-rev-self.true)

pub returns-then-self-ge-MAX_NUMBER : goal.returns-then-self-ge-MAX_NUMBER
returns-then-self-ge-MAX_NUMBER c = sym (revision_spent (entry_of c.args.self.now) c.args.rev (Ok tt) c.if-rev-self.false c.if-self-ge-MAX_NUMBER.true)

pub returns : goal.returns
returns c = sym (revision_named (entry_of c.args.self.now) c.args.rev (Ok tt) c.if-rev-self.false c.if-self-ge-MAX_NUMBER.false)
