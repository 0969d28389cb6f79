use Rattle.std.proofs.Common.{◌++◌}
use Rattle.line_protocol.proofs.{Prelude.drop, Listing.IsListed}
use Rattle.line_protocol.proofs.reply_line.lists.put_list.Given as goal

abbrev pub invariant-entries : goal.invariant-entries
invariant-entries g l = IsListed g.T.Entry.json l.entries (drop l.entry-index l.entries) l.later (l.fn.line.items ++ l.fn.text) (l.line.items ++ l.text)
