use Rattle.std.proofs.Common.{codes, rules}
use Rattle.line_protocol.{specs.Flat.position_data, proofs.FlatLookups.at_later, proofs.FlatLookups.at_earlier, proofs.FlatLookups.at_neither}
use Rattle.line_protocol.proofs.request.flat.find.bound.Goals as goal

pub returns-then-eq : goal.returns-then-eq
returns-then-eq c = at_later c.args.name.now (codes "end") (codes "start") (position_data c.args.range.end) (position_data c.args.range.start) (search rules)

pub returns-then-eq-2 : goal.returns-then-eq-2
returns-then-eq-2 c = at_earlier c.args.name.now (codes "end") (codes "start") (position_data c.args.range.end) (position_data c.args.range.start) (search rules) (search rules)

pub returns : goal.returns
returns c = at_neither c.args.name.now (codes "end") (codes "start") (position_data c.args.range.end) (position_data c.args.range.start) (search rules) (search rules)
