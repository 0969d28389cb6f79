use Rattle.position_map.proofs.{Words.◌<◌, Words.◌≤◌, Words.arith, Words.length, Items.within_bytes, Items.scalar_at_end, Items.scalar_past}
use Rattle.position_map.proofs.places.byte_to_scalar.Goals as goal

pub returns-then-at-length-clause-scalar : goal.returns-then-at-length-clause-scalar
returns-then-at-length-clause-scalar c =
    let past : length c.of-parts.result.doc.bytes < c.args.at = omega (arith, c.bytes-length.ensures.bytes, c.if-at-length.true) in
    rw c.of-parts.ensures.doc at (scalar_past c.of-parts.result _ past)

pub returns-in-None-clause-scalar : goal.returns-in-None-clause-scalar
returns-in-None-clause-scalar c =
    let within : c.args.at ≤ length c.of-parts.result.doc.bytes = omega (arith, c.bytes-length.ensures.bytes, c.if-at-length.false) in
    rw c.of-parts.ensures.doc
    at (scalar_at_end _ c.of-parts.result _ _ _ _ c.bytes-length.ensures.whole c.in-None.is c.find.ensures.place within c.end-end.ensures)

pub scalars_until-requires : goal.scalars_until-requires
scalars_until-requires c = record { found = rw c.in-Some.is at c.find.ensures.place; small = rw c.in-Some.is at c.find.ensures.small }

pub returns-in-Some-clause-scalar : goal.returns-in-Some-clause-scalar
returns-in-Some-clause-scalar c =
    let within : c.args.at ≤ length c.of-parts.result.doc.bytes = omega (arith, c.bytes-length.ensures.bytes, c.if-at-length.false) in
    rw c.of-parts.ensures.doc at (within_bytes c.of-parts.result _ _ within c.scalars_until.ensures.scalars)
