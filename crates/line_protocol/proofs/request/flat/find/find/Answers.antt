use Rattle.std.proofs.Common.{◌∙◌, [], arith, rules}
use Rattle.line_protocol.specs.Flat.{Member}
use Rattle.line_protocol.{specs.declared.request.flat.object.FlatValue.TheVariants.Whole, proofs.FlatLookups.found_at, proofs.FlatLookups.passed_at}
use Rattle.line_protocol.proofs.request.flat.find.find.Goals as goal

-- past the last member
abbrev none : Member
none = (record { ref_ptr = (0, 0); now = [] }, Whole 0)

pub returns-then-eq : goal.returns-then-eq
returns-then-eq c =
    found_at c.args.name.now c.args.members.now c.members.left none c.members-test.true c.members.invariant.1 (search rules) ∙ c.members.invariant.0

pub members-preserved : goal.members-preserved
members-preserved c = (
  passed_at c.args.name.now c.args.members.now c.members.left none c.members-test.true c.members.invariant.1 (search rules) ∙ c.members.invariant.0,
  omega (arith, c.members.invariant.1),
)
