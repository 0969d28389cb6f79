use Rattle.std.proofs.Common.{sym, ◌∙◌}
use Rattle.desk.proofs.Names.{has_named}
use Rattle.desk.proofs.documents.Documents.has.Goals as goal

pub returns : goal.returns
returns c = rw (← c.self.view_is) (c.contains_key.ensures ∙ sym (has_named c.args.name.now c.self.inside.named.entries))
