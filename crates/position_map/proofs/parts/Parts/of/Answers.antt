use Rattle.position_map.proofs.Finding.{whole-of}
use Rattle.position_map.proofs.parts.Parts.of.Goals as goal

pub invariant_of-result : goal.invariant_of-result
invariant_of-result c =
    let f = c.finder.ensures in
    let n = c.lengths.ensures in (
      whole-of _ _ _ f.made f.bytes f.small f.wide f.counted c.tail.ensures.made c.tail.ensures.bytes f.outputs c.tail.ensures.outputs,
      record { bytes = n.bytes; scalars = n.scalars; utf16 = n.utf16; utf8 = n.utf8; errors = n.errors; lines = n.lines },
    )

pub returns-clause-whole : goal.returns-clause-whole
returns-clause-whole c =
    let f = c.finder.ensures in
    whole-of _ _ _ f.made f.bytes f.small f.wide f.counted c.tail.ensures.made c.tail.ensures.bytes f.outputs c.tail.ensures.outputs
