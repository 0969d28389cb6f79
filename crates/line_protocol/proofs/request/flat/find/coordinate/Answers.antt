use Rattle.std.proofs.Common.{codes, rules}
use Rattle.line_protocol.{specs.Flat.whole_data, proofs.FlatLookups.at_later, proofs.FlatLookups.at_earlier, proofs.FlatLookups.at_neither}
use Rattle.line_protocol.proofs.request.flat.find.coordinate.Goals as goal

pub returns-then-eq : goal.returns-then-eq
returns-then-eq c = at_later c.args.name.now (codes "character") (codes "line") (whole_data c.args.point.character) (whole_data c.args.point.line) (search rules)

pub returns-then-eq-2 : goal.returns-then-eq-2
returns-then-eq-2 c = at_earlier c.args.name.now (codes "character") (codes "line") (whole_data c.args.point.character) (whole_data c.args.point.line) (search rules) (search rules)

pub returns : goal.returns
returns c = at_neither c.args.name.now (codes "character") (codes "line") (whole_data c.args.point.character) (whole_data c.args.point.line) (search rules) (search rules)
