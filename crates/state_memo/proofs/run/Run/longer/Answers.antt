use Rattle.std.proofs.Common.{rules, to_z, of_z, w16}
use Rattle.state_memo.proofs.Splitting.{longer-is}
use Rattle.state_memo.proofs.run.Run.longer.Goals as goal

pub returns-clause-items : goal.returns-clause-items
returns-clause-items c =
    longer-is c.args.self c.args.next (to_z w16 (of_z w16 c.args.next.last)) c.args.more c.args.step (search rules) c.requires.kind c.requires.more
    c.requires.gap c.requires.front c.requires.back
