use Rattle.std.specs.Str.{chars}
use Rattle.position_map.proofs.Planning.{other_put}
use Rattle.position_map.proofs.plan.put_in.Goals as goal

pub returns-in_default : goal.returns-in_default
returns-in_default c =
    other_put c.args.parts.doc c.indexes.result.now c.encoding.result c.args.left.output c.args.right.output c.args.right.at
    (chars c.args.text.now) c.encode.result
    c.indexes.ensures c.encoding.ensures c.law_in_force.ensures.files c.in_default.not-Iso2022Jp c.encode.ensures
