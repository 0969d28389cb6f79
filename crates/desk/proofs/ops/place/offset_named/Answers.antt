use Rattle.desk.proofs.{Prelude.text_of, Place.byte_within, Place.converted_within}
use Rattle.desk.proofs.ops.place.offset_named.Goals as goal

pub returns-in-Byte-clause-within : goal.returns-in-Byte-clause-within
returns-in-Byte-clause-within c = byte_within c.args.document.now c.args.value c.byte_to_scalar.result c.byte_to_scalar.ensures.scalar

pub returns-in-Text-clause-within : goal.returns-in-Text-clause-within
returns-in-Text-clause-within c = converted_within (text_of c.args.document.now) c.in-Text.unit c.args.value c.convert.result c.convert.ensures.value
