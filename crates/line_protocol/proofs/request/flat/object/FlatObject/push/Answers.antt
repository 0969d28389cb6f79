use Rattle.std.proofs.{Common.arith, lemmas.List.take_more_set}
use Rattle.line_protocol.proofs.request.flat.object.FlatObject.push.Goals as goal

pub returns-clause-members : goal.returns-clause-members
returns-clause-members c = take_more_set c.args.self.now.members c.args.self.now.count c.args.member (omega (arith, c.requires, c.args.self.now.within.1))
